-- The places of a folder's classes are those of the program that they mean.
use Rattle.std.proofs.Common.{ℕ, List, map, sym, ap, subst}
use Rattle.image_map.specs.declared.map.Image.{Image}
use Rattle.jack_tree.specs.Seen.{the_file}
use Rattle.jack_meaning.specs.Text.{Program}
use Rattle.jack_names.specs.Meaning.{program_names}
use Rattle.jack_core.specs.Texts.{the_program}
use Rattle.jack_compiler.specs.Resolved.{IsResolved, IsResolvedCore}
use Rattle.tower.specs.Resolved.{ResolvedLaw}
use Rattle.vm_debug.proofs.CorePlaces.{core_places}
use Rattle.debug_laws.specs.Shown.{ClassPlacesLaw}

pub class_places : ResolvedLaw → ClassPlacesLaw
class_places law own os files core image places spelled are is_program is placed =
    let names : IsResolved (the_program core) (program_names (map the_file own) (map the_file os)) =
    subst (λ (p : Program). IsResolved p (program_names (map the_file own) (map the_file os))) (sym is_program.program) (law own os files is_program.well_named spelled are) in
    let resolved : IsResolvedCore core = subst (λ (ns : List (List ℕ)). IsResolved (the_program core) ns) (sym is_program.names) names in
    core_places own os core is.linked image.map places resolved is_program.program is.links (ap (λ (q : Image). q.map) is.is_image) placed

-- The places of a program's classes, whose code is linked once more for them, are those of the program and of its image.
use Rattle.std.proofs.Common.{◌≡◌, ◌∙◌, false, List, Ok, map, sym, ap, subst}
use Rattle.std.specs.Prelude.{Result}
use Rattle.image_map.specs.declared.map.ImageMap.{ImageMap}
use Rattle.jack_tree.specs.Seen.{the_file}
use Rattle.jack_tree.specs.declared.tree.Class.{Class}
use Rattle.vm_link.proofs.Once.{linked_once}
use Rattle.vm_link.specs.Links.{Links}
use Rattle.vm_link.specs.declared.fault.LinkFault.{LinkFault}
use Rattle.vm_link.specs.declared.linked.Linked.{Linked}
use Rattle.vm_translator.specs.Image.{image_map_of}
use Rattle.jack_names.specs.Meaning.{program_meaning}
use Rattle.jack_core.specs.Texts.{the_program}
use Rattle.jack_core.specs.declared.program.Core.{Core}
use Rattle.jack_compiler.specs.Files.{files_of}
use Rattle.jack_compiler.specs.Resolved.{IsResolvedCore}
use Rattle.jack_compiler.proofs.Seam.{compiled}
use Rattle.jack_debug.specs.declared.places.Places.{Places}
use Rattle.vm_debug.specs.Places.{the_places}
use Rattle.vm_debug.specs.Program.{ArePlacesOf, ArePlacesOfClasses}
use Rattle.vm_debug.proofs.Program.{places_are}

pub core_places : (own system : List Class) (core : Core) (linked : Linked) (m : ImageMap) (places : Places) → IsResolvedCore core → the_program core ≡ program_meaning (map the_file own) (map the_file system)
    → Links false (files_of core) (Ok linked) → m ≡ image_map_of linked → ArePlacesOfClasses own system core m places → ArePlacesOf (the_program core) linked places
core_places own system core linked m places resolved meant links mapped (again, links_again, e) =
    let once : ◌≡◌ {A = Result Linked LinkFault} (Ok again) (Ok linked) =
    linked_once false (files_of core) (Ok again) (Ok linked) links_again links (λ d. let no : ⊥ = cc in no) (λ d. let no : ⊥ = cc in no) in
    let same : again ≡ linked = cc in
    let placed : places ≡ the_places own system linked (image_map_of linked) =
    e ∙ ap (λ (l : Linked). the_places own system l m) same ∙ ap (the_places own system linked) mapped in
    subst (ArePlacesOf (the_program core) linked) (sym placed) (places_are own system (the_program core) linked meant (compiled.linked core linked resolved links))

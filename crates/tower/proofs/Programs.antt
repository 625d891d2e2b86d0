-- The program of classes that some texts spell, with those of the operating system.
use Rattle.std.proofs.Common.{◌≡◌, ◌≤◌, ◌<◌, ◌+◌, ◌++◌, ◌^◌, ℕ, Bool, List, [], ◌∷◌, length, map, Ok, refl, sym, ap, ◌∙◌, subst, arith}
use Rattle.jack_tree.specs.declared.tree.Class.{Class}
use Rattle.jack_tree.specs.Seen.{the_file}
use Rattle.jack_meaning.specs.Text.{Program}
use Rattle.jack_core.specs.Texts.{the_program, names_of, class_names_of}
use Rattle.jack_core.specs.declared.program.Core.{Core}
use Rattle.jack_names.specs.Limits.{AreWithin, subroutine_count}
use Rattle.jack_names.specs.NameFaults.{IsWellNamed}
use Rattle.jack_names.specs.Meaning.{program_meaning}
use Rattle.jack_names.specs.Inner.Whole.{WellNamed, program_meant, all_names_meant}
use Rattle.jack_names.specs.Inner.Whole as whole
use Rattle.jack_names.proofs.Found.{finds_none}
use Rattle.jack_names.proofs.Wholly.{search_same}
use Rattle.jack_names.proofs.MeantWholly.{program_same, names_are}
use Rattle.tower.specs.Read.{AreReadClasses}
use Rattle.tower.specs.Spelled.{AreSpelled, ReadLaw}
use Rattle.jack_os.specs.System.{Texts, AreClassesOf}
use Rattle.jack_compiler.specs.Resolved.{IsResolved, IsResolvedCore}
use Rattle.tower.specs.Program.{Means, class_names}
use Rattle.tower.specs.Sources.{system_beside}
use Rattle.tower.specs.Resolved.{ResolvedLaw}
use Rattle.tower.proofs.NamedProgram.{well_named_resolved}
use Rattle.tower.proofs.Spelled.{spelled_are_read, read_within, few_subroutines}
use Rattle.tower.proofs.Completed.{files_read, as_many_classes}
use Rattle.tower.proofs.Beside.{few_beside}

-- a program in which the search finds no fault
resolved_trees : ReadLaw → (own os : List Class) (files : Texts) → WellNamed own os → AreSpelled own → AreClassesOf files os → IsResolved (program_meant own os) (all_names_meant own os)
resolved_trees law own os files well spelled of_files =
    let own_read = spelled_are_read law own spelled in
    let os_read = files_read law files os of_files in
    well_named_resolved own os well (read_within own own_read) (read_within os os_read) own_read os_read

pub resolved_by : ReadLaw → ResolvedLaw
resolved_by law own os files well spelled of_files =
    let none : WellNamed own os = search_same own os ∙ (finds_none (map the_file own) (map the_file os)).1 well in
    let trees = resolved_trees law own os files none spelled of_files in
    let P : Program → Type 0 = λ p. IsResolved p (all_names_meant own os) in
    let N : List (List ℕ) → Type 0 = λ ns. IsResolved (program_meaning (map the_file own) (map the_file os)) ns in
    subst N (names_are own os) (subst P (program_same own os) trees)

-- the names of classes, as they are seen
seen_names : (cs : List Class) → whole.class_names cs ≡ class_names (map the_file cs)
seen_names [] = refl
seen_names (c ∷ cs) = ap (λ (l : List (List ℕ)). c.name.text ∷ l) (seen_names cs)

module _ (law : ReadLaw) (replace : Bool) (own os : List Class) (few : length own ≤ 256) (spelled : AreSpelled own) (is_system : AreClassesOf (system_beside replace (map the_file own)) os) where
  -- the files of the operating system that stand beside the folder's
  abbrev beside : Texts
  beside = system_beside replace (map the_file own)

  own_read : AreReadClasses own
  own_read = spelled_are_read law own spelled

  os_read : AreReadClasses os
  os_read = files_read law beside os is_system

  os_few : length os ≤ 256
  os_few = let n = as_many_classes beside os is_system in omega (arith, n, few_beside replace (map the_file own))

  pub few_classes : length own + length os < 2 ^ 31
  few_classes = omega (arith, few, os_few)

  pub subroutines_counted : subroutine_count own + subroutine_count os < 2 ^ 31
  subroutines_counted = omega (arith, few, os_few, few_subroutines own own_read, few_subroutines os os_read)

  pub own_within : AreWithin own
  own_within = read_within own own_read

  pub os_within : AreWithin os
  os_within = read_within os os_read

  module _ (core : Core) (names : names_of core ≡ all_names_meant own os) where
    pub core_means : IsWellNamed (map the_file own) (map the_file os) → the_program core ≡ program_meaning (map the_file own) (map the_file os) → class_names_of core ≡ whole.class_names own ++ whole.class_names os → Means replace own (Ok core)
    core_means well program classes = (
      os,
      is_system,
      record {
        well_named = well;
        program = program;
        names = names ∙ names_are own os;
        classes = classes ∙ (λ i. seen_names own i ++ seen_names os i);
      },
    )

    pub core_resolved : WellNamed own os → the_program core ≡ program_meant own os → IsResolvedCore core
    core_resolved well program =
        let meant = resolved_trees law own os beside well spelled is_system in
        let P : Program → Type 0 = λ p. IsResolved p (all_names_meant own os) in
        let N : List (List ℕ) → Type 0 = λ ns. IsResolved (the_program core) ns in
        subst N (sym names) (subst P (sym program) meant)

-- The statics, the choices and loops and the sections of a program that a folder's classes mean.
use Rattle.std.proofs.Common.{◌≡◌, ◌≤◌, ◌<◌, ◌^◌, ℕ, zero, suc, ◌+◌, ◌*◌, Bool, true, false, List, [], ◌∷◌, ◌++◌, length, map, refl, sym, subst, ◌∙◌, arith, length-append}
use Rattle.std.proofs.lemmas.List.{length-map}
use Rattle.jack_tree.specs.declared.tree.Class.{Class}
use Rattle.jack_tree.specs.Seen.{the_file}
use Rattle.jack_meaning.specs.Text.{Program}
use Rattle.jack_meaning.specs.Meaning.{subroutine_at}
use Rattle.jack_core.specs.Texts.{the_program, names_of, class_names_of}
use Rattle.jack_names.specs.Limits.{subroutine_count}
use Rattle.jack_names.specs.Symbols.{Symbols, symbols_of, class_scope, scope_in, fields_of, statics_of}
use Rattle.jack_names.specs.Inner.Whole.{class_meant, program_meant, class_subroutines, subroutine_meant, subroutines_meant, all_subroutines_meant}
use Rattle.jack_names.specs.Inner.Whole as whole
use Rattle.jack_names.proofs.MeantWholly.{program_same}
use Rattle.jack_os.specs.System.{AreClassesOf}
use Rattle.jack_compiler.specs.Files.{statics_before, program_files}
use Rattle.jack_compiler.specs.Lines.{ifs_in, whiles_in}
use Rattle.vm_link.specs.Sections.{sections}
use Rattle.tower.specs.Read.{AreReadClasses}
use Rattle.tower.specs.Spelled.{AreSpelled, ReadLaw}
use Rattle.tower.specs.Resolved.{ResolvedLaw}
use Rattle.tower.specs.Sources.{system_beside}
use Rattle.tower.proofs.Spelled.{spelled_are_read, few_subroutines}
use Rattle.tower.proofs.Completed.{files_read, as_many_classes}
use Rattle.tower.proofs.Beside.{few_beside}
use Rattle.count_laws.specs.Counts.{all_statics, StaticsLaw, ProgramLaw}
use Rattle.count_laws.proofs.Sections.{compiled_few}

few_statics : (cs : List Class) → AreReadClasses cs → all_statics cs ≤ 16384 * length cs
few_statics [] h = omega arith
few_statics (c ∷ cs) h = omega (arith, h.0.statics, few_statics cs h.1)

-- the statics before a class, and those of all
before_all : (cs : List Class) (k : ℕ) → statics_before (map class_meant cs) k ≤ all_statics cs
before_all [] k = omega arith
before_all (c ∷ cs) zero = omega arith
before_all (c ∷ cs) (suc k) = omega (arith, before_all cs k)

before_both : (own os : List Class) (k : ℕ) → statics_before (map class_meant own ++ map class_meant os) k ≤ all_statics own + all_statics os
before_both [] os k = omega (arith, before_all os k)
before_both (c ∷ cs) os zero = omega arith
before_both (c ∷ cs) os (suc k) = omega (arith, before_both cs os k)

-- as many subroutines are meant as there are
as_many_meant : (symbols : Symbols) (shipped : Bool) (n statics : ℕ) (cs : List Class) → length (subroutines_meant symbols shipped n statics cs) ≡ subroutine_count cs
as_many_meant symbols shipped n statics [] = refl
as_many_meant symbols shipped n statics (c ∷ cs) =
    let mine = class_subroutines (class_scope symbols shipped n statics c) (fields_of c.variables.items) c.subroutines.items in
    let more = subroutines_meant symbols shipped (n + 1) (statics + statics_of c.variables.items) cs in
    omega (
      arith,
      length-append mine more,
      length-map c.subroutines.items (λ t. subroutine_meant (scope_in (class_scope symbols shipped n statics c) t) (fields_of c.variables.items) t),
      as_many_meant symbols shipped (n + 1) (statics + statics_of c.variables.items) cs,
    )

module _ (law : ReadLaw) (replace : Bool) (own os : List Class) (few : length own ≤ 256) (spelled : AreSpelled own) (is_system : AreClassesOf (system_beside replace (map the_file own)) os) where
  own_read : AreReadClasses own
  own_read = spelled_are_read law own spelled

  os_read : AreReadClasses os
  os_read = files_read law (system_beside replace (map the_file own)) os is_system

  os_few : length os ≤ 8
  os_few = let n = as_many_classes (system_beside replace (map the_file own)) os is_system in omega (arith, n, few_beside replace (map the_file own))

  statics_few : all_statics own + all_statics os < 2 ^ 31
  statics_few = omega (arith, few, os_few, few_statics own own_read, few_statics os os_read)

  abbrev meant : Program
  meant = program_meant own os

  meant_statics : (k : ℕ) → statics_before meant.classes k < 2 ^ 31
  meant_statics k = omega (arith, before_both own os k, statics_few)

  meant_sections : (names class_names : List (List ℕ)) → length (sections false (program_files meant names class_names)) < 2 ^ 32
  meant_sections names class_names =
      let symbols = symbols_of (own ++ os) in
      let mine = subroutines_meant symbols false 0 0 own in
      let theirs = subroutines_meant symbols true (length own) (whole.all_statics own) os in
      omega (
        arith,
        compiled_few meant names class_names,
        length-append mine theirs,
        as_many_meant symbols false 0 0 own,
        as_many_meant symbols true (length own) (whole.all_statics own) os,
        length-append (map class_meant own) (map class_meant os),
        length-map own class_meant,
        length-map os class_meant,
        few_subroutines own own_read,
        few_subroutines os os_read,
        few,
        os_few,
      )

pub statics_fit : ReadLaw → StaticsLaw
statics_fit law replace own os few spelled is_system = statics_few law replace own os few spelled is_system

pub program_fits : ReadLaw → ResolvedLaw → ProgramLaw
program_fits law resolved replace own core few spelled (os, is_system, program) =
    let each = (resolved own os (system_beside replace (map the_file own)) program.well_named spelled is_system).each in
    let as_meant : the_program core ≡ program_meant own os = program.program ∙ sym (program_same own os) in
    let Statics : Program → Type 0 = λ p. (k : ℕ) → statics_before p.classes k < 2 ^ 31 in
    let Ifs : Program → Type 0 = λ p. (g : ℕ) → 0 < g → g < length p.subroutines → ifs_in (subroutine_at p.subroutines g).body < 2 ^ 32 in
    let Whiles : Program → Type 0 = λ p. (g : ℕ) → 0 < g → g < length p.subroutines → whiles_in (subroutine_at p.subroutines g).body < 2 ^ 32 in
    let Few : Program → Type 0 = λ p. length (sections false (program_files p (names_of core) (class_names_of core))) < 2 ^ 32 in
    record {
      statics = subst Statics (sym as_meant) (meant_statics law replace own os few spelled is_system);
      ifs = subst Ifs (sym program.program) (λ g a b. (each g a b).ifs);
      whiles = subst Whiles (sym program.program) (λ g a b. (each g a b).whiles);
      sections = subst Few (sym as_meant) (meant_sections law replace own os few spelled is_system (names_of core) (class_names_of core));
    }

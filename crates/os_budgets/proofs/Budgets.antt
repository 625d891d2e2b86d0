-- The budgets of the programs, by computation.
use Rattle.std.proofs.Common.{◌≡◌, ℕ, true, List, ◌++◌, None, arith, drop, refl, subst, sym}
use Rattle.jack_meaning.specs.Text.{Program}
use Rattle.jack_parser.proofs.Spelt.{one_class}
use Rattle.jack_parser.proofs.Decided.{class_in, is_spelled, spelled}
use Rattle.vm_tree.specs.declared.program.File.{File}
use Rattle.jack_names.specs.Meaning.{no_subroutine, program_names}
use Rattle.tower.specs.Program.{class_names}
use Rattle.jack_names.proofs.Searched.{all_faults}
use Rattle.jack_names.proofs.Found.{finds_none}
use Rattle.jack_os.specs.System.{system}
use Rattle.jack_os.proofs.SystemTexts.{system_classes, are_files, one_list}
use Rattle.tower.proofs.Budgets.{budgets}
use Rattle.os_budgets.specs.Programs.{HasStatics, HasWords, main_alone, program_with}
use Rattle.os_budgets.specs.Laws.{EachLaw, EmptyLaw, each, empty}
use Rattle.os_budgets.proofs.Closure.{budget, covered, has_all, has_budget}
use Rattle.os_budgets.proofs.Statics.{files_of_program, has_statics, same_files, statics}

-- what a text means with the system
abbrev program_of : List ℕ → Program
program_of text = program_with (class_in text) system_classes

abbrev names_of : List ℕ → List (List ℕ)
names_of text = program_names (main_alone (class_in text)) system_classes

abbrev titles_of : List ℕ → List (List ℕ)
titles_of text = class_names (main_alone (class_in text)) ++ class_names system_classes

abbrev files_of : List ℕ → List File
files_of text = files_of_program (program_of text) (names_of text) (titles_of text)

-- the class in it is right, its names are, and it has this many words
record Computes (text : List ℕ) (words static : ℕ) : Type 0 where
  spells : is_spelled text ≡ true
  named : all_faults (main_alone (class_in text)) system_classes ≡ None
  budget_is : has_budget 4000 (program_of text) words ≡ true
  statics_are : has_statics 4000 (files_of text) static ≡ true

has : (text : List ℕ) (words static : ℕ) → Computes text words static → HasWords text words static
has text words static h =
    let spelt = spelled text h.spells in
    let is = budget (program_of text) 4000 words h.budget_is in
    record {
      class = class_in text;
      spelled = spelt;
      one_class = λ c k. (one_class text).one c (class_in text) k spelt;
      os = system_classes;
      shipped = are_files;
      one_system = λ cs k. one_list system cs system_classes k are_files;
      well_named = (finds_none (main_alone (class_in text)) system_classes).0 h.named;
      budget = is;
      one_budget = λ w k. budgets.one (program_of text) w words k is;
      static_words = subst (λ fs. HasStatics fs static) (sym (same_files (program_of text) (names_of text) (titles_of text))) (statics 4000 (files_of text) static h.statics_are);
    }

empty_computes : Computes empty 8140 5
empty_computes = record { spells = refl; named = refl; budget_is = refl; statics_are = refl }

pub empty_law : EmptyLaw
empty_law = record { words = has empty 8140 5 empty_computes; within = omega arith }

each_computes : Computes each 18717 5
each_computes = record { spells = refl; named = refl; budget_is = refl; statics_are = refl }

each_covered : has_all 4000 (program_of each) ≡ true
each_covered = refl

pub each_law : EachLaw
unfolding has
each_law = record {
  words = has each 18717 5 each_computes;
  within = omega arith;
  all = λ g low high. covered (program_of each) 4000 no_subroutine (drop 1 (program_of each).subroutines) refl each_covered g low high;
}

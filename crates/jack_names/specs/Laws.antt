-- What holds of every program's names.
use Rattle.std.specs.Prelude.{◌≡◌, ◌↔◌, List, Some, None, map}
use Rattle.jack_tree.specs.declared.tree.Class.{Class}
use Rattle.jack_tree.specs.Seen.{the_file}
use Rattle.jack_names.specs.Faults.{NameDiagnostic}
use Rattle.jack_names.specs.Inner.Whole.{first_name_fault, program_meant, all_names_meant}
use Rattle.jack_names.specs.Meaning.{program_meaning, program_names}
use Rattle.jack_tree.specs.Syntax.{ClassFile}
use Rattle.jack_names.specs.NameFaults.{IsWellNamed}
use Rattle.jack_names.specs.FaultOrder.{IsFirstFault, PlacesRise, IsFirstByPlace}

-- The search finds the fault that fails and that comes before every other; and it finds none exactly where none fails.
pub record NamesLaw : Type 0 where
  pub finds : (own os : List Class) (told : NameDiagnostic) → (first_name_fault own os ≡ Some told)
      ↔ IsFirstFault (map the_file own) (map the_file os) told
  pub well_named : (own os : List Class)
      → (first_name_fault own os ≡ None) ↔ IsWellNamed (map the_file own) (map the_file os)
  -- where places rise in each file, the first fault is the first by file, place and kind
  pub by_place : (own os : List ClassFile) (told : NameDiagnostic) → PlacesRise own os
      → IsFirstFault own os told → IsFirstByPlace own os told

-- The program that trees mean is the one that their abstract syntax means, and so are the names of its subroutines.
pub record MeantLaw : Type 0 where
  pub program : (own os : List Class)
      → program_meant own os ≡ program_meaning (map the_file own) (map the_file os)
  pub names : (own os : List Class)
      → all_names_meant own os ≡ program_names (map the_file own) (map the_file os)

-- The operating system is well named by itself (the book, chapters 9 to 12), whatever the folder's classes are.
use Rattle.std.specs.Prelude.{◌≡◌, false, List}
use Rattle.jack_tree.specs.Syntax.{ClassFile}
use Rattle.jack_names.specs.Faults.{NameDiagnostic}
use Rattle.jack_names.specs.NameFaults.{Spot, Fails, IsWellNamed}
use Rattle.jack_names.specs.FaultOrder.{IsFirstFault}
use Rattle.jack_os.specs.System.{AreFilesOf, system}

pub record SystemNamedLaw : Type 0 where
  -- The first name fault is reported of the folder.
  pub first : (own os : List ClassFile) (told : NameDiagnostic) → AreFilesOf system os
      → IsFirstFault own os told → told.shipped ≡ false
  -- Where none is reported of the folder, names are well.
  pub well : (own os : List ClassFile) → AreFilesOf system os
      → ((at : Spot) (told : NameDiagnostic) → told.shipped ≡ false → Fails own os at told → ⊥)
      → IsWellNamed own os

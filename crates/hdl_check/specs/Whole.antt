-- The faults of a chip of a library, as an answer has them.
use Rattle.std.specs.Prelude.{◌≡◌, ℕ, List, [], ◌∷◌, Some, Result, Ok, Err, slice_get}
use Rattle.hdl_tree.specs.declared.library.Entry.{Entry}
use Rattle.hdl_tree.specs.declared.ends.Memories.{Memories}
use Rattle.hdl_tree.specs.Chips.{Chips, find_chip}
use Rattle.hdl_check.specs.Locations.{IsFaultless, IsFirstFault}
use Rattle.hdl_check.specs.declared.fault.NamedFault.{NamedFault}
use Rattle.hdl_check.specs.declared.fault.ElabFault.{ElabFault}
use Rattle.hdl_check.specs.declared.fault.ElabFault.TheVariants as errors

abbrev pub chips_in : List Entry → Memories → Chips
chips_in entries memories = record { entries = entries; memories = memories }

-- no two chips have the same name
abbrev pub AreDistinct : List Entry → Type 0
AreDistinct entries = (i j : ℕ) (a b : Entry) → slice_get entries i ≡ Some a → slice_get entries j ≡ Some b → a.name ≡ b.name → i ≡ j

-- the chip of this name, which stands in no other, has no fault
abbrev pub TopIsFaultless : Chips → List ℕ → Type 0
TopIsFaultless chips top = (entry : Entry) → find_chip chips top ≡ Some entry → IsFaultless chips (entry.name ∷ []) entry

-- its first fault
abbrev pub TopFails : Chips → List ℕ → NamedFault → Type 0
TopFails chips top f = (entry : Entry) → find_chip chips top ≡ Some entry → IsFirstFault chips (entry.name ∷ []) entry f

-- the error is such a fault, unless memory ran out
abbrev pub Tells : (NamedFault → Type 0) → ElabFault → Type 0
Tells P errors.Memory = Unit {0}
Tells P (errors.Named f) = P f

-- the answer is this fault, unless memory ran out
abbrev pub IsToldBy : {A : Type 0} → NamedFault → Result A ElabFault → Type 0
IsToldBy f (Ok a) = ⊥
IsToldBy f (Err errors.Memory) = Unit {0}
IsToldBy f (Err (errors.Named g)) = f ≡ g

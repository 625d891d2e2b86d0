-- Chips with nothing wrong in their texts, and no bits that go in a circle. (The book, chapter 3 and appendix
-- 2.)
use Rattle.std.specs.Prelude.{◌≡◌, ℕ, List, [], ◌∷◌, Some}
use Rattle.hdl_tree.specs.declared.library.Entry.{Entry}
use Rattle.hdl_tree.specs.Chips.{Chips, find_chip}
use Rattle.hdl_check.specs.Locations.{IsFaultless}
use Rattle.hdl_plans.specs.Loops.{IsLoop}

-- nothing is wrong at any place of the texts of the chip and of those in it
abbrev pub HasNoFault : Chips → Entry → Type 0
HasNoFault chips top = IsFaultless chips (top.name ∷ []) top

-- no nets are those of a loop
abbrev pub HasNoLoop : Chips → Entry → Type 0
HasNoLoop chips top = (nets : List (List ℕ)) → IsLoop chips top nets → ⊥

-- the chip of this name has no loop
abbrev pub TopHasNoLoop : Chips → List ℕ → Type 0
TopHasNoLoop chips name = (top : Entry) → find_chip chips name ≡ Some top → HasNoLoop chips top

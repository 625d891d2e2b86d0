-- Which chips have a behaviour. (The book, chapters 1 to 3, and appendix 2.)
use Rattle.std.specs.Prelude.{◌≡◌, ℕ, ◌<◌, List, [], ◌∷◌, Some}
use Rattle.hdl_tree.specs.declared.library.Entry.{Entry}
use Rattle.hdl_tree.specs.Chips.{Chips, find_chip}
use Rattle.hdl_tree.specs.Behaviour.{Histories, World, IsBehaviour}
use Rattle.hdl_check.specs.Locations.{IsFaultless}
use Rattle.hdl_plans.specs.Loops.{IsLoop}
use Rattle.hdl_plans.specs.Planned.{HasEnds}
use Rattle.hdl_plans.specs.Ways.{HasBit}

-- key codes and the words of the ROM are words
pub record AreWords (world : World) : Type 0 where
  pub keys : (c : ℕ) → world.key c < 65536
  pub words : (a : ℕ) → world.rom a < 65536

-- a behaviour of the chip over n cycles, in which this comes in at the bits of its inputs
pub record HasBehaviour (world : World) (chips : Chips) (top : Entry) (n : ℕ) (input : Histories) : Type 0 where
  pub wires : List ℕ → Histories
  pub behaves : IsBehaviour world chips top n wires
  pub hears : (name : List ℕ) (bit c : ℕ) → HasBit top.chip.inputs name bit
      → wires [] name bit c ≡ input name bit c

-- A chip of the library without faults and without a loop has a behaviour, whatever comes in.
abbrev pub ExistLaw : Type 0
ExistLaw =
    (chips : Chips) (name : List ℕ) (top : Entry) → HasEnds chips → find_chip chips name ≡ Some top → IsFaultless chips (top.name ∷ []) top → ((nets : List (List ℕ)) → IsLoop chips top nets → ⊥) →
    (world : World) → AreWords world → (n : ℕ) (input : Histories) → HasBehaviour world chips top n input

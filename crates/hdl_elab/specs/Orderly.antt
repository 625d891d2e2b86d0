-- A flat chip without faults and without a loop can be put in order. (The book, chapter 3.)
use Rattle.std.specs.Prelude.{◌≡◌, ℕ, List, Some}
use Rattle.hdl_tree.specs.declared.library.Entry.{Entry}
use Rattle.hdl_tree.specs.Chips.{Chips, find_chip}
use Rattle.net_order.specs.Reads.{AreClosed, IsCircle}
use Rattle.hdl_flatten.specs.declared.flat.Flat.{Flat}
use Rattle.hdl_flatten.specs.Ends.{EndsHavePins}
use Rattle.hdl_flatten.specs.Flat.{IsFlat}
use Rattle.hdl_elab.specs.Sound.{HasNoFault, HasNoLoop}

-- its nodes read what is there, and no circle of them read each other within a cycle
pub record IsOrderly (flat : Flat) : Type 0 where
  pub closed : AreClosed flat.nodes flat.blocks
  pub no_circle : (circle : List ℕ) → IsCircle flat.nodes flat.blocks circle → ⊥

-- The nodes of a chip of the library, in which ends have their pins, are so where the chip has no fault and no loop.
abbrev pub OrderlyLaw : Type 0
OrderlyLaw = (chips : Chips) (name : List ℕ) (top : Entry) (flat : Flat) → EndsHavePins chips → find_chip chips name ≡ Some top → HasNoFault chips top → HasNoLoop chips top → IsFlat chips top flat → IsOrderly flat

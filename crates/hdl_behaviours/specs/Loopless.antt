-- A chip whose bits are nodes of a netlist in order has no loop. (The book, chapter 3.)
use Rattle.std.specs.Prelude.{◌≡◌, ℕ, List, [], ◌∷◌, Some, codes}
use Rattle.hdl_tree.specs.declared.library.Entry.{Entry}
use Rattle.hdl_tree.specs.declared.ends.End.{End}
use Rattle.hdl_tree.specs.declared.ends.End.TheVariants as ends
use Rattle.hdl_tree.specs.Chips.{Chips, end_of, find_chip}
use Rattle.hdl_tree.specs.Behaviour.{Wires, width_in}
use Rattle.netlist.specs.Net.{Net}
use Rattle.netlist.specs.Order.{AreOrdered}
use Rattle.hdl_check.specs.Locations.{IsFaultless}
use Rattle.hdl_plans.specs.Loops.{IsLoop}
use Rattle.hdl_plans.specs.Planned.{HasEnds}
use Rattle.hdl_nodes.specs.Numbering.{IsNumbering}

-- the out of an end, and the pins that reach it within the cycle, are as wide as they are shipped
abbrev pub IsWide : Entry → End → Type 0
IsWide chip ends.Nand = (width_in chip.chip.inputs (codes "a") ≡ Some 1) × (width_in chip.chip.inputs (codes "b") ≡ Some 1) × (width_in chip.chip.outputs (codes "out") ≡ Some 1)
IsWide chip ends.Dff = Unit {0}
IsWide chip ends.Keyboard = Unit {0}
IsWide chip ends.Rom = (width_in chip.chip.inputs (codes "address") ≡ Some 15) × (width_in chip.chip.outputs (codes "out") ≡ Some 16)
IsWide chip (ends.Block bits) = (width_in chip.chip.inputs (codes "address") ≡ Some bits) × (width_in chip.chip.outputs (codes "out") ≡ Some 16)

-- this holds of each end of the library
abbrev pub AreWide : Chips → Type 0
AreWide chips = (name : List ℕ) (chip : Entry) (e : End) → find_chip chips name ≡ Some chip → end_of chips.memories chip ≡ Some e → IsWide chip e

-- A chip of the library without faults that has a numbering in a netlist in order has no loop.
abbrev pub LooplessLaw : Type 0
LooplessLaw =
    (chips : Chips) (name : List ℕ) (top : Entry) → HasEnds chips → AreWide chips → find_chip chips name ≡ Some top → IsFaultless chips (top.name ∷ []) top →
    (net : Net) (low high : ℕ) (block : List ℕ → ℕ) (at : List ℕ → Wires ℕ) → IsNumbering net low high chips top block at → AreOrdered net.nodes net.blocks → (nets : List (List ℕ)) → IsLoop chips top nets → ⊥

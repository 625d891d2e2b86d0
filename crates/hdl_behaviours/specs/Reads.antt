-- A circle of nodes that read each other within a cycle is a loop of the chip. (The book, chapter 3.)
use Rattle.std.specs.Prelude.{◌≡◌, ℕ, ◌<◌, ◌⊎◌, List, [], ◌∷◌, Some, slice_get, codes}
use Rattle.hdl_tree.specs.declared.library.Entry.{Entry}
use Rattle.hdl_tree.specs.declared.ends.End.{End}
use Rattle.hdl_tree.specs.declared.ends.End.TheVariants as ends
use Rattle.hdl_tree.specs.Chips.{Chips, end_of, find_chip}
use Rattle.hdl_tree.specs.Behaviour.{Wires, chip_at}
use Rattle.netlist.specs.declared.node.Node.TheVariants.{Pin}
use Rattle.netlist.specs.declared.node.Node.{Node}
use Rattle.netlist.specs.Net.{Net}
use Rattle.net_order.specs.Reads.{IsCircle}
use Rattle.hdl_check.specs.Locations.{IsFaultless}
use Rattle.hdl_plans.specs.Loops.{IsLoop}
use Rattle.hdl_plans.specs.Planned.{HasEnds}
use Rattle.hdl_plans.specs.Ways.{HasBit}
use Rattle.hdl_nodes.specs.Numbering.{IsNumbering}
use Rattle.hdl_behaviours.specs.Loopless.{AreWide}

-- ---- outputs of ends

-- how many bits the out of an end has
abbrev pub out_bits : End → ℕ
out_bits ends.Nand = 1
out_bits ends.Dff = 1
out_bits ends.Keyboard = 16
out_bits ends.Rom = 16
out_bits (ends.Block bits) = 16

-- an end of the library has no other output bits than those of its out
abbrev pub HaveOutAlone : Chips → Type 0
HaveOutAlone chips = (name : List ℕ) (chip : Entry) (e : End) → find_chip chips name ≡ Some chip → end_of chips.memories chip ≡ Some e → (pin : List ℕ) (bit : ℕ) → HasBit chip.chip.outputs pin bit → (pin ≡ codes "out") × (bit < out_bits e)

-- ---- the nodes of a chip

-- node k is that of an output bit of an end in the chip
pub record IsOutput (chips : Chips) (top : Entry) (at : List ℕ → Wires ℕ) (k : ℕ) : Type 0 where
  pub path : List ℕ
  pub chip : Entry
  pub e : End
  pub there : chip_at chips top path ≡ Some chip
  pub is : end_of chips.memories chip ≡ Some e
  pub pin : List ℕ
  pub bit : ℕ
  pub has : HasBit chip.chip.outputs pin bit
  pub node : at path pin bit ≡ k

-- each node of the netlist is a pin, low, high, or that of an output bit of an end
abbrev pub AreOutputs : Net → ℕ → ℕ → Chips → Entry → (List ℕ → Wires ℕ) → Type 0
AreOutputs net low high chips top at = (k : ℕ) (node : Node) → slice_get net.nodes k ≡ Some node → (node ≡ Pin) ⊎ ((k ≡ low) ⊎ ((k ≡ high) ⊎ IsOutput chips top at k))

-- the bits of the chip's inputs are pins
abbrev pub ArePins : Net → Entry → (List ℕ → Wires ℕ) → Type 0
ArePins net top at = (name : List ℕ) (bit : ℕ) → HasBit top.chip.inputs name bit → slice_get net.nodes (at [] name bit) ≡ Some Pin

-- ---- the law

-- the chip has a loop
pub record HasLoop (chips : Chips) (top : Entry) : Type 0 where
  pub nets : List (List ℕ)
  pub is : IsLoop chips top nets

-- A chip of the library without faults has a loop, where nodes of its numbering have a circle.
abbrev pub ReadsLaw : Type 0
ReadsLaw =
    (chips : Chips) (name : List ℕ) (top : Entry) → HasEnds chips → AreWide chips → HaveOutAlone chips → find_chip chips name ≡ Some top → IsFaultless chips (top.name ∷ []) top →
    (net : Net) (low high : ℕ) (block : List ℕ → ℕ) (at : List ℕ → Wires ℕ) → IsNumbering net low high chips top block at → AreOutputs net low high chips top at → ArePins net top at →
    (circle : List ℕ) → IsCircle net.nodes net.blocks circle → HasLoop chips top

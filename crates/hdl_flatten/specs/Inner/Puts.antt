-- A chip that is put into a netlist: from a node on stand those of its ends, and its input bits are nodes that are there.
use Rattle.std.specs.Prelude.{◌≡◌, ◌≤◌, ◌<◌, ℕ, ◌+◌, ◌^◌, List, [], Some, take, drop, slice_get, slice_index}
use Rattle.hdl_tree.specs.declared.ends.End.{End}
use Rattle.hdl_tree.specs.declared.ends.End.TheVariants as ends
use Rattle.hdl_tree.specs.Chips.{Chips}
use Rattle.hdl_tree.specs.Behaviour.{Wires, Wired}
use Rattle.netlist.specs.declared.node.Node.TheVariants as nodes
use Rattle.netlist.specs.declared.node.Block.{Block}
use Rattle.netlist.specs.Net.{Net}
use Rattle.hdl_nodes.specs.Numbering.{EndStands}
use Rattle.hdl_flatten.specs.declared.wires.Origin.{Origin}
use Rattle.hdl_flatten.specs.declared.wires.Origin.TheVariants.{Low, High, Input, Gate}
use Rattle.hdl_flatten.specs.declared.plan.Plan.{Plan}
use Rattle.hdl_flatten.specs.Flat.{IsEndBit}
use Rattle.hdl_flatten.specs.Inner.Wired.{origin_at, wires_of}

-- the node of what feeds a bit, where the chip's own nodes begin at base: 0 and 1 are the constants
abbrev pub node_of : ℕ → List ℕ → Origin → ℕ
node_of base inputs Low = 0
node_of base inputs High = 1
node_of base inputs (Input k) = slice_index inputs k
node_of base inputs (Gate k) = base + k

-- The chip of this plan stands in the netlist from node base on, fed by these nodes. Its bits are nodes as the plan says, and all in it is
-- wired. Each of its nodes is an output bit of an end in it, of just one, all of whose bits are nodes of it.
pub record IsPlaced (chips : Chips) (net : Net) (plan : Plan) (base : ℕ) (inputs : List ℕ) (block : List ℕ → ℕ) (at : List ℕ → Wires ℕ) : Type 0 where
  pub own : (name : List ℕ) (bit : ℕ) → at [] name bit ≡ node_of base inputs (origin_at (wires_of plan.wires) name bit)
  pub wired : Wired 0 1 chips plan.entry.now (λ path e. EndStands net 0 (block path) e (at path)) at
  pub ends : (k : ℕ) → base ≤ k → k < base + plan.size.nodes → IsEndBit chips plan.entry.now at k
  pub inside : (k : ℕ) → IsEndBit chips plan.entry.now at k → (base ≤ k) × (k < base + plan.size.nodes)
  pub alone : (k : ℕ) (x y : IsEndBit chips plan.entry.now at k) → (x.path ≡ y.path) × (x.bit ≡ y.bit)

-- ---- ends

-- block b of the netlist is this one, and the nodes of its word stand from base on
pub record BlockPut (net : Net) (base b : ℕ) (block : Block) : Type 0 where
  pub there : slice_get net.blocks b ≡ Some block
  pub words : (k : ℕ) → k < 16 → slice_get net.nodes (base + k) ≡ Some (nodes.Word b k)

-- the nodes of an end that is fed by these nodes stand in the netlist from base on, and its block, which is block b
abbrev pub EndPut : Net → ℕ → End → List ℕ → ℕ → Type 0
EndPut net base ends.Nand inputs b = slice_get net.nodes base ≡ Some (nodes.Nand (slice_index inputs 0) (slice_index inputs 1))
EndPut net base ends.Dff inputs b = slice_get net.nodes base ≡ Some (nodes.Flip (slice_index inputs 0))
EndPut net base ends.Keyboard inputs b = (k : ℕ) → k < 16 → slice_get net.nodes (base + k) ≡ Some nodes.Pin
EndPut net base ends.Rom inputs b = BlockPut net base b (record { words = 32768; «data» = []; load = 0; address = inputs })
EndPut net base (ends.Block bits) inputs b = BlockPut net base b (record { words = 2 ^ bits; «data» = take 16 inputs; load = slice_index inputs 16; address = drop 17 inputs })

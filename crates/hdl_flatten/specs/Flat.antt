-- A chip as nodes and blocks, with a directory of its pins and parts. (The book, chapters 1 to 3, and appendix 2.)
use Rattle.std.specs.Prelude.{◌≡◌, ℕ, ◌*◌, ◌<◌, ◌≤◌, codes, List, ◌++◌, Option, Some, None, map, length, slice_get, []}
use Rattle.std.specs.List.{All}
use Rattle.hdl_tree.specs.declared.tree.Pin.{Pin}
use Rattle.hdl_tree.specs.declared.library.Entry.{Entry}
use Rattle.hdl_tree.specs.declared.ends.End.{End}
use Rattle.hdl_tree.specs.declared.ends.End.TheVariants as ends
use Rattle.hdl_tree.specs.Chips.{Chips, end_of, find_chip, pin_width}
use Rattle.hdl_tree.specs.Behaviour.{Wires, chip_at}
use Rattle.hdl_check.specs.Tables.{BitOf, bits_of}
use Rattle.netlist.specs.declared.node.Node.{Node}
use Rattle.netlist.specs.declared.node.Node.TheVariants as nodes
use Rattle.netlist.specs.declared.node.Block.{Block}
use Rattle.netlist.specs.Order.{HasInputs}
use Rattle.hdl_nodes.specs.Numbering.{IsNumbering}
use Rattle.hdl_flatten.specs.declared.flat.PinAt.{PinAt}
use Rattle.hdl_flatten.specs.declared.flat.PartAt.{PartAt}
use Rattle.hdl_flatten.specs.declared.flat.Flat.{Flat}
use Rattle.hdl_flatten.specs.Trees.{PartIn, IsTree, all_bits, end_nodes, node_count}

-- ---- what nodes and blocks read is there

-- of this many nodes and blocks
abbrev pub Reads : ℕ → ℕ → Node → Type 0
Reads n m nodes.Pin = Unit {0}
Reads n m (nodes.Nand i j) = (i < n) × (j < n)
Reads n m (nodes.Flip i) = i < n
Reads n m (nodes.Word b bit) = (b < m) × (bit < 16)
Reads n m nodes.Zero = Unit {0}

pub record ReadWhatIsThere (ns : List Node) (blocks : List Block) : Type 0 where
  pub node : (k : ℕ) (node : Node) → slice_get ns k ≡ Some node → Reads (length ns) (length blocks) node
  pub block : (b : ℕ) (block : Block) → slice_get blocks b ≡ Some block → HasInputs (length ns) block

-- ---- the directory, where `at` gives the node of each bit, by path, and `block` the block of the end at a path

abbrev pub nodes_at : Wires ℕ → List BitOf → List ℕ
nodes_at at bits = map (λ b. at b.name b.bit) bits

-- a pin, with the nodes of its bits, the lowest first
abbrev pub pin_at : Wires ℕ → Pin → PinAt
pin_at at p = record { name = p.name; nodes = nodes_at at (bits_of p.name 0 (pin_width p)) }

-- the instruction memory and the memories have a block
abbrev pub block_at : Option End → ℕ → Option ℕ
block_at (Some ends.Rom) b = Some b
block_at (Some (ends.Block bits)) b = Some b
block_at (Some ends.Nand) b = None
block_at (Some ends.Dff) b = None
block_at (Some ends.Keyboard) b = None
block_at None b = None

-- a part: its chip, the nodes of its output bits, and its block if it has one
abbrev pub part_at : Chips → (List ℕ → Wires ℕ) → (List ℕ → ℕ) → PartIn → PartAt
part_at chips at block p = record {
  chip = p.chip.name;
  outs = nodes_at (at p.path) (all_bits p.chip.chip.outputs);
  block = block_at (end_of chips.memories p.chip) (block p.path);
}

-- ---- the whole

-- the chip of this name needs at most 16,777,216 nodes
abbrev pub NeedsFew : Chips → List ℕ → Type 0
NeedsFew chips name = (chip : Entry) (tree : List PartIn) → find_chip chips name ≡ Some chip → IsTree chips chip tree → node_count chips chip tree ≤ 16777216

-- a node is that of an output bit of an end in the chip
pub record IsEndBit (chips : Chips) (top : Entry) (at : List ℕ → Wires ℕ) (k : ℕ) : Type 0 where
  pub path : List ℕ
  pub chip : Entry
  pub e : End
  pub bit : ℕ
  pub there : chip_at chips top path ≡ Some chip
  pub is_end : end_of chips.memories chip ≡ Some e
  pub below : bit < end_nodes (Some e)
  pub node : at path (codes "out") bit ≡ k

-- a block is that of an end in the chip
pub record IsEndBlock (chips : Chips) (top : Entry) (block : List ℕ → ℕ) (b : ℕ) : Type 0 where
  pub path : List ℕ
  pub chip : Entry
  pub there : chip_at chips top path ≡ Some chip
  pub its : block_at (end_of chips.memories chip) (block path) ≡ Some b

-- The chip with the parts in it, as nodes and blocks: its bits have nodes, and it has no other nodes than it needs. The directory has its pins,
-- inputs first, and all its parts, depth first in text order, and the nodes that it names are there. Each of the chip's input bits is a pin of its
-- own. Each node that is no pin and no constant is that of an output bit of an end. No two such bits have one node, and none has that of an input
-- bit of the chip. Each block is that of an end, of just one, and there are sixteen nodes for each.
pub record IsFlat (chips : Chips) (top : Entry) (flat : Flat) : Type 0 where
  pub tree : List PartIn
  pub listed : IsTree chips top tree
  pub count : length flat.nodes ≡ node_count chips top tree
  pub low : ℕ
  pub high : ℕ
  pub at : List ℕ → Wires ℕ
  pub block : List ℕ → ℕ
  pub numbering : IsNumbering (record { nodes = flat.nodes; blocks = flat.blocks }) low high chips top block at
  pub read : ReadWhatIsThere flat.nodes flat.blocks
  pub pins : flat.pins ≡ map (pin_at (at [])) (top.chip.inputs ++ top.chip.outputs)
  pub parts : flat.parts ≡ map (part_at chips at block) tree
  pub pins_there : All (λ p. All (λ node. node < length flat.nodes) p.nodes) flat.pins
  pub parts_there : All (λ p. All (λ node. node < length flat.nodes) p.outs) flat.parts
  pub inputs : (k : ℕ) (b : BitOf) → slice_get (all_bits top.chip.inputs) k ≡ Some b → slice_get flat.nodes (at [] b.name b.bit) ≡ Some nodes.Pin
  pub apart : (i j : ℕ) (a b : BitOf) → slice_get (all_bits top.chip.inputs) i ≡ Some a → slice_get (all_bits top.chip.inputs) j ≡ Some b → at [] a.name a.bit ≡ at [] b.name b.bit → i ≡ j
  pub ends : (k : ℕ) (node : Node) → slice_get flat.nodes k ≡ Some node → (node ≡ nodes.Pin → ⊥) → (k ≡ low → ⊥) → (k ≡ high → ⊥) → IsEndBit chips top at k
  pub alone : (k : ℕ) (x y : IsEndBit chips top at k) → (x.path ≡ y.path) × (x.bit ≡ y.bit)
  pub outside : (i : ℕ) (b : BitOf) → slice_get (all_bits top.chip.inputs) i ≡ Some b → IsEndBit chips top at (at [] b.name b.bit) → ⊥
  pub blocks_used : (b : ℕ) → b < length flat.blocks → IsEndBlock chips top block b
  pub blocks_apart : (b : ℕ) (x y : IsEndBlock chips top block b) → x.path ≡ y.path
  pub blocks_few : 16 * length flat.blocks ≤ length flat.nodes

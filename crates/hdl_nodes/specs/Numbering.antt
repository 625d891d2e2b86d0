-- The bits of a chip as nodes of a netlist. (The book, chapters 1 to 3.)
use Rattle.std.specs.Prelude.{◌≡◌, ℕ, ◌<◌, ◌^◌, Bool, List, [], Some, map, slice_get, codes}
use Rattle.std.specs.List.{range_with_len}
use Rattle.hdl_tree.specs.declared.library.Entry.{Entry}
use Rattle.hdl_tree.specs.declared.ends.End.{End}
use Rattle.hdl_tree.specs.declared.ends.End.TheVariants as ends
use Rattle.hdl_tree.specs.Memory.{number}
use Rattle.hdl_tree.specs.Chips.{Chips, end_of}
use Rattle.hdl_tree.specs.Behaviour.{Wires, World, chip_at, Wired, IsBehaviour}
use Rattle.netlist.specs.declared.node.Node.TheVariants.{Pin, Nand, Flip, Word, Zero}
use Rattle.netlist.specs.declared.node.Block.{Block}
use Rattle.netlist.specs.Net.{Net}
use Rattle.netlist.specs.Value.{Inputs, AreValues}

-- ---- ends; at gives the node of each bit of the end's pins

-- the nodes of the lowest n bits
abbrev pub nodes_of : ℕ → (ℕ → ℕ) → List ℕ
nodes_of n at = map at (range_with_len 0 n)

-- a memory of 2 ^ bits words
abbrev pub memory_block : ℕ → Wires ℕ → Block
memory_block bits at = record { words = 2 ^ bits; «data» = nodes_of 16 (at (codes "in")); load = at (codes "load") 0; address = nodes_of bits (at (codes "address")) }

-- the instruction memory, into which no word comes: low is a node that is always 0
abbrev pub rom_block : ℕ → Wires ℕ → Block
rom_block low at = record { words = 32768; «data» = []; load = low; address = nodes_of 15 (at (codes "address")) }

-- block b of the netlist is this one, and the sixteen bits of out are those of its word
pub record BlockStands (net : Net) (b : ℕ) (block : Block) (at : Wires ℕ) : Type 0 where
  pub there : slice_get net.blocks b ≡ Some block
  pub words : (k : ℕ) → k < 16 → slice_get net.nodes (at (codes "out") k) ≡ Some (Word b k)

-- the nodes of the end stand in the netlist, and its block, which is block b
abbrev pub EndStands : Net → ℕ → ℕ → End → Wires ℕ → Type 0
EndStands net low b ends.Nand at = slice_get net.nodes (at (codes "out") 0) ≡ Some (Nand (at (codes "a") 0) (at (codes "b") 0))
EndStands net low b ends.Dff at = slice_get net.nodes (at (codes "out") 0) ≡ Some (Flip (at (codes "in") 0))
EndStands net low b ends.Keyboard at = (k : ℕ) → k < 16 → slice_get net.nodes (at (codes "out") k) ≡ Some Pin
EndStands net low b ends.Rom at = BlockStands net b (rom_block low at) at
EndStands net low b (ends.Block bits) at = BlockStands net b (memory_block bits at) at

-- ---- numberings

-- A numbering of the chip: `at` gives the node of each bit of each pin and net, by path, and `block` the block of the end at a path. What
-- is joined is one node; low is the node Zero, which is always 0, and high a Nand of it, which is always 1.
pub record IsNumbering (net : Net) (low high : ℕ) (chips : Chips) (top : Entry) (block : List ℕ → ℕ) (at : List ℕ → Wires ℕ) : Type 0 where
  pub low_stands : slice_get net.nodes low ≡ Some Zero
  pub high_stands : slice_get net.nodes high ≡ Some (Nand low low)
  pub wired : Wired low high chips top (λ path e. EndStands net low (block path) e (at path)) at

-- ---- what comes from outside

-- The pins of a keyboard spell its code in each of n cycles, the instruction memory is loaded with its words, and a memory with zeros.
abbrev pub EndHears : World → Inputs → ℕ → ℕ → End → Wires ℕ → Type 0
EndHears world inputs n b ends.Nand at = Unit {0}
EndHears world inputs n b ends.Dff at = Unit {0}
EndHears world inputs n b ends.Keyboard at = (c : ℕ) → c < n → number 16 (λ k. inputs.pin c (at (codes "out") k)) ≡ world.key c
EndHears world inputs n b ends.Rom at = (a : ℕ) → a < 32768 → (inputs.loaded b a ≡ world.rom a) × (world.rom a < 65536)
EndHears world inputs n b (ends.Block bits) at = (a : ℕ) → inputs.loaded b a ≡ 0

abbrev pub Hears : World → Inputs → ℕ → Chips → Entry → (List ℕ → ℕ) → (List ℕ → Wires ℕ) → Type 0
Hears world inputs n chips top block at =
    (path : List ℕ) (chip : Entry) (e : End) → chip_at chips top path ≡ Some chip → end_of chips.memories chip ≡ Some e → EndHears world inputs n (block path) e (at path)

-- ---- the law

-- The values of the netlist at the nodes of a numbering are a behaviour of the chip.
abbrev pub NumberingLaw : Type 0
NumberingLaw =
    (world : World) (net : Net) (inputs : Inputs) (n : ℕ) (v : ℕ → ℕ → Bool) (low high : ℕ) (chips : Chips) (top : Entry) (block : List ℕ → ℕ) (at : List ℕ → Wires ℕ) →
    IsNumbering net low high chips top block at → Hears world inputs n chips top block at → AreValues net inputs n v →
    IsBehaviour world chips top n (λ path name bit c. v (at path name bit) c)

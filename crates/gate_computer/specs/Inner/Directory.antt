-- What the wiring of the Computer takes from the directory of its netlist.
use Rattle.std.specs.Prelude.{◌≡◌, ◌≤◌, ℕ, List, [], ◌∷◌, ◌++◌, Option, Some, None, IsSome, length, take, drop, map, reverse, slice_get, codes, if◌then◌else◌}
use Rattle.std.specs.Str.{bytes_eq}
use Rattle.hdl_tree.specs.declared.tree.Pin.{Pin}
use Rattle.hdl_tree.specs.declared.library.Entry.{Entry}
use Rattle.hdl_tree.specs.Chips.{find_entry, pin_width}
use Rattle.hdl_flatten.specs.declared.flat.PartAt.{PartAt}
use Rattle.gate_computer.specs.declared.wiring.WiredPart.{WiredPart}
use Rattle.gate_computer.specs.declared.wiring.Wiring.{Wiring}
use Rattle.hdl_flatten.specs.Trees.{bit_count}

-- ---- parts by the names of their chips

-- the first part of this chip
abbrev pub first_named : List ℕ → List PartAt → Option PartAt
first_named name [] = None
first_named name (part ∷ parts) = if bytes_eq name part.chip then Some part else first_named name parts

abbrev pub outs_in : Option PartAt → List ℕ
outs_in None = []
outs_in (Some part) = part.outs

abbrev pub block_in : Option PartAt → Option ℕ
block_in None = None
block_in (Some part) = part.block

-- the nodes of its outputs, and its block
abbrev pub outs_named : List ℕ → List PartAt → List ℕ
outs_named name parts = outs_in (first_named name parts)

abbrev pub block_named : List ℕ → List PartAt → Option ℕ
block_named name parts = block_in (first_named name parts)

-- ---- parts, with the bits of their outputs turned

abbrev pub outputs_of : Option Entry → List Pin
outputs_of None = []
outputs_of (Some chip) = chip.chip.outputs

-- nodes of the bits of pins, given with the lowest bit of each pin first, with the highest first
abbrev pub turned_nodes : List Pin → List ℕ → List ℕ
turned_nodes [] nodes = []
turned_nodes (pin ∷ pins) nodes = reverse (take (pin_width pin) nodes) ++ turned_nodes pins (drop (pin_width pin) nodes)

-- a part of a chip that is one of these, with its bits turned
abbrev pub wired_part : List Entry → PartAt → WiredPart
wired_part entries part = record { chip = part.chip; outputs = turned_nodes (outputs_of (find_entry entries part.chip)) part.outs }

-- its chip is one of these, and all its bits are there
pub record IsTold (entries : List Entry) (part : PartAt) : Type 0 where
  pub there : IsSome (find_entry entries part.chip)
  pub wide : bit_count (outputs_of (find_entry entries part.chip)) ≤ length part.outs

abbrev pub AreTold : List Entry → List PartAt → Type 0
AreTold entries parts = (i : ℕ) (part : PartAt) → slice_get parts i ≡ Some part → IsTold entries part

-- ---- the wiring

-- the parts that a wiring names are there, with their nodes and blocks
pub record CanTell (entries : List Entry) (parts : List PartAt) : Type 0 where
  pub keyboard : IsSome (first_named (codes "Keyboard") parts)
  pub cpu : IsSome (first_named (codes "CPU") parts)
  pub pc : 32 ≤ length (outs_named (codes "CPU") parts)
  pub a : IsSome (first_named (codes "ARegister") parts)
  pub rom : IsSome (block_named (codes "ROM32K") parts)
  pub main : IsSome (block_named (codes "RAM16K") parts)
  pub screen : IsSome (block_named (codes "Screen") parts)
  pub told : AreTold entries parts

-- The wiring says what the directory does; the pc is the last of the outputs of the CPU, after 32 bits of others.
pub record IsToldBy (entries : List Entry) (parts : List PartAt) (w : Wiring) : Type 0 where
  pub keyboard : w.keyboard ≡ outs_named (codes "Keyboard") parts
  pub pc : w.pc ≡ drop 32 (outs_named (codes "CPU") parts)
  pub a : w.a ≡ outs_named (codes "ARegister") parts
  pub rom : block_named (codes "ROM32K") parts ≡ Some w.rom
  pub main : block_named (codes "RAM16K") parts ≡ Some w.main
  pub screen : block_named (codes "Screen") parts ≡ Some w.screen
  pub wired : w.parts ≡ Some (map (wired_part entries) parts)

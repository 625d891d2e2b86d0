-- All parts of a chip, down to the ends, and how many nodes they need. (The book, chapters 1 and 3, and appendix 2.)
use Rattle.std.specs.Prelude.{◌≡◌, ℕ, suc, ◌+◌, min, List, [], ◌∷◌, ◌++◌, Option, Some, None, map, length}
use Rattle.hdl_tree.specs.declared.tree.Pin.{Pin}
use Rattle.hdl_tree.specs.declared.tree.Part.{Part}
use Rattle.hdl_tree.specs.declared.library.Entry.{Entry}
use Rattle.hdl_tree.specs.declared.ends.End.{End}
use Rattle.hdl_tree.specs.declared.ends.End.TheVariants as ends
use Rattle.hdl_tree.specs.Chips.{Chips, end_of, find_chip, parts_of, pin_width}
use Rattle.hdl_check.specs.Tables.{BitOf, bits_of}
use Rattle.hdl_flatten.specs.declared.size.Size.{Size}

-- ---- the tree

-- a part somewhere in a chip: the numbers of the parts that lead to it, and its chip
pub record PartIn : Type 0 where
  pub path : List ℕ
  pub chip : Entry

-- these, as they stand in part i
abbrev pub within : ℕ → List PartIn → List PartIn
within i parts = map (λ p. record { path = i ∷ p.path; chip = p.chip }) parts

-- Parts depth first, in text order: each part, then what is in its chip, then the parts after it. The first has number i.
pub data AreListed (chips : Chips) : ℕ → List Part → List PartIn → Type 0 where
  none : {i : ℕ} → AreListed chips i [] []
  next : {i : ℕ} {part : Part} {parts : List Part} {chip : Entry} {inner others : List PartIn} → find_chip chips part.chip ≡ Some chip → AreListed chips 0 (parts_of chips chip) inner → AreListed chips (suc i) parts others →
      AreListed chips i (part ∷ parts) (record { path = i ∷ []; chip = chip } ∷ (within i inner ++ others))

-- these are all parts of the chip and of the chips in it
abbrev pub IsTree : Chips → Entry → List PartIn → Type 0
IsTree chips chip tree = AreListed chips 0 (parts_of chips chip) tree

-- ---- how many nodes

-- an end has a node for each bit of its output
abbrev pub end_nodes : Option End → ℕ
end_nodes None = 0
end_nodes (Some ends.Nand) = 1
end_nodes (Some ends.Dff) = 1
end_nodes (Some ends.Keyboard) = 16
end_nodes (Some ends.Rom) = 16
end_nodes (Some (ends.Block bits)) = 16

abbrev pub chip_nodes : Chips → Entry → ℕ
chip_nodes chips chip = end_nodes (end_of chips.memories chip)

abbrev pub part_nodes : Chips → List PartIn → ℕ
part_nodes chips [] = 0
part_nodes chips (p ∷ ps) = chip_nodes chips p.chip + part_nodes chips ps

-- the bits of pins, in order of declaration, the lowest of each first
abbrev pub all_bits : List Pin → List BitOf
all_bits [] = []
all_bits (p ∷ ps) = bits_of p.name 0 (pin_width p) ++ all_bits ps

-- how many these are
abbrev pub bit_count : List Pin → ℕ
bit_count [] = 0
bit_count (p ∷ ps) = pin_width p + bit_count ps

-- A chip with this tree needs a node for each of its input bits, one for each output bit of an end, and two for the constants.
abbrev pub node_count : Chips → Entry → List PartIn → ℕ
node_count chips chip tree = (bit_count chip.chip.inputs + (chip_nodes chips chip + part_nodes chips tree)) + 2

-- ---- how large a tree is

-- the number, if it is at most 1,000,000,000
abbrev pub capped_count : ℕ → ℕ
capped_count n = min n 1000000000

-- the chip needs this many nodes and has this many parts; what is more than 1,000,000,000 is given as
-- that
pub record HasSize (chips : Chips) (chip : Entry) (size : Size) : Type 0 where
  pub tree : List PartIn
  pub listed : IsTree chips chip tree
  pub nodes : size.nodes ≡ capped_count (node_count chips chip tree)
  pub parts : size.parts ≡ capped_count (length tree)

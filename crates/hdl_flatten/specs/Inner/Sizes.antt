-- The sizes of the chips of a tree.
use Rattle.std.specs.Prelude.{◌≡◌, ℕ, ◌+◌, ◌<◌, ◌≤◌, List, [], ◌∷◌, Option, Some, None, length, slice_get}
use Rattle.std.specs.List.{All}
use Rattle.hdl_tree.specs.declared.library.Entry.{Entry}
use Rattle.hdl_tree.specs.Chips.{Chips}
use Rattle.hdl_flatten.specs.declared.nest.Nested.{Nested}
use Rattle.hdl_flatten.specs.declared.size.Size.{Size}
use Rattle.hdl_flatten.specs.Trees.{PartIn, IsTree, chip_nodes, part_nodes, capped_count}

-- a tree with one more part
abbrev pub joined_size : Size → Size → Size
joined_size size inner = record { nodes = capped_count (size.nodes + inner.nodes); parts = capped_count (capped_count (size.parts + 1) + inner.parts) }

abbrev pub joined_if : Size → Option Size → Size
joined_if size None = size
joined_if size (Some inner) = joined_size size inner

-- with the parts at these places
abbrev pub all_joined : List Size → Size → List ℕ → Size
all_joined sizes size [] = size
all_joined sizes size (r ∷ rs) = all_joined sizes (joined_if size (slice_get sizes r)) rs

abbrev pub IsSmall : Size → Type 0
IsSmall size = (size.nodes ≤ 1000000000) × (size.parts ≤ 1000000000)

-- the sizes of the parts are there
pub record IsSizeAt (chips : Chips) (nested : Nested) (sizes : List Size) : Type 0 where
  pub number : nested.number < length chips.entries
  pub parts : All (λ r. r < length sizes) nested.parts.items

-- the size of a chip without its pins
pub record IsSizeOf (chips : Chips) (chip : Entry) (size : Size) : Type 0 where
  pub tree : List PartIn
  pub listed : IsTree chips chip tree
  pub nodes : size.nodes ≡ capped_count (chip_nodes chips chip + part_nodes chips tree)
  pub parts : size.parts ≡ capped_count (length tree)

abbrev pub AreRight : Chips → List Nested → List Size → Type 0
AreRight chips nest sizes = (i : ℕ) (nested : Nested) (chip : Entry) (size : Size) → slice_get nest i ≡ Some nested → slice_get chips.entries nested.number ≡ Some chip → slice_get sizes i ≡ Some size → IsSizeOf chips chip size

-- the sizes of the chips of a tree
pub record AreSizes (chips : Chips) (nest : List Nested) (sizes : List Size) : Type 0 where
  pub long : length sizes ≡ length nest
  pub right : AreRight chips nest sizes

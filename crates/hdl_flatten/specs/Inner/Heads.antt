-- How parts are kept: what those of a kind have in common stands once, and the nodes of all in one list.
use Rattle.std.specs.Prelude.{◌≡◌, ◌<◌, ◌≤◌, ◌+◌, ◌++◌, ℕ, List, [], None, length, slice_index_or, slice_range}
use Rattle.hdl_flatten.specs.declared.flat.PartAt.{PartAt}
use Rattle.hdl_flatten.specs.declared.parts.Head.{Head}
use Rattle.hdl_flatten.specs.declared.parts.Kind.{Kind}

-- the kind of a number
abbrev pub kind_at : List Kind → ℕ → Kind
kind_at kinds k = slice_index_or kinds k (record { chip = []; outs = 0; block = None })

-- a part of a kind, whose nodes begin there
abbrev pub part_from : List ℕ → ℕ → Kind → PartAt
part_from nodes from kind = record { chip = kind.chip; outs = slice_range nodes from (from + kind.outs); block = kind.block }

-- the part of these kinds and nodes that a head stands for
abbrev pub part_of : List Kind → List ℕ → Head → PartAt
part_of kinds nodes head = part_from nodes head.from (kind_at kinds head.kind)

-- of these kinds and so many nodes it names what is there
pub record IsHead (kinds : List Kind) (nodes : ℕ) (head : Head) : Type 0 where
  pub kind : head.kind < length kinds
  pub end : head.from + (kind_at kinds head.kind).outs ≤ nodes

-- a list is the beginning of another
pub record HasMore (old new : List Kind) : Type 0 where
  pub more : List Kind
  pub longer : new ≡ old ++ more

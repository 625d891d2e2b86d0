-- Parts that are kept in one list. (The book, appendix 2.)
use Rattle.std.specs.Prelude.{ℕ, List, map, slice_index}
use Rattle.hdl_flatten.specs.declared.flat.PartAt.{PartAt}
use Rattle.hdl_flatten.specs.declared.parts.ListedPart.{ListedPart}

-- the part that is listed so
abbrev pub part_listed : ListedPart → PartAt
part_listed part = record { chip = part.chip.now; outs = part.outs.now; block = part.block }

-- a part with the places of its nodes
abbrev pub renumbered : List ℕ → PartAt → PartAt
renumbered places part = record { chip = part.chip; outs = map (slice_index places) part.outs; block = part.block }

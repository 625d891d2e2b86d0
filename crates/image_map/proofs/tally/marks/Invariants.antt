use Rattle.std.proofs.Common.{◌≡◌, ℕ, false, length, take}
use Rattle.std.specs.Prelude.{nat_eq, slice_index_or}
use Rattle.std.specs.List.{list_any}
use Rattle.image_map.proofs.tally.marks.Given as goal

abbrev pub invariant-loop-at : goal.invariant-loop-at
invariant-loop-at l = (length l.marks.items ≡ 65536) × ((k : ℕ) → slice_index_or l.marks.items k false ≡ list_any (nat_eq k) (take l.at-index l.commits))

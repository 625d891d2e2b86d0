use Rattle.std.proofs.Common.{◌≡◌, map, take}
use Rattle.chip_basic.specs.Tables.{part_of}
use Rattle.chip_basic.proofs.table.parts_of.Given as goal

abbrev pub invariant-loop-row : goal.invariant-loop-row
invariant-loop-row l = l.parts.items ≡ map part_of (take l.row-index l.rows)

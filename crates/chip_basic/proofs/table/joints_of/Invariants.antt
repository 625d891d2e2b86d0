use Rattle.std.proofs.Common.{◌≡◌, map, take}
use Rattle.chip_basic.specs.Tables.{connection_of}
use Rattle.chip_basic.proofs.table.joints_of.Given as goal

abbrev pub invariant-loop-link : goal.invariant-loop-link
invariant-loop-link l = l.joints.items ≡ map connection_of (take l.link-index l.links)

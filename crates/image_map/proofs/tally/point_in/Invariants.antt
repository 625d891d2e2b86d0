use Rattle.std.proofs.Common.{◌≡◌, drop}
use Rattle.image_map.specs.Map.{point_in}
use Rattle.image_map.proofs.tally.point_in.Given as goal

abbrev pub invariant-loop-range : goal.invariant-loop-range
invariant-loop-range l = point_in l.points l.at ≡ point_in (drop l.range-index l.points) l.at

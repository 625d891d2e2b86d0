-- The ranges so far have been added.
use Rattle.std.proofs.Common.{◌≡◌, ◌++◌, drop, map}
use Rattle.vm_debug.specs.Inner.Tables.{range_by}
use Rattle.vm_debug.proofs.places.ranges_of.Given as goal

abbrev pub invariant-loop-range : goal.invariant-loop-range
invariant-loop-range l = l.ranges ++ map (range_by l.tables) (drop l.range-index l.points) ≡ map (range_by l.tables) l.points

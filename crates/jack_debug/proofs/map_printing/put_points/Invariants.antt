-- The lines of the points so far have been handed to the buffer.
use Rattle.std.proofs.Common.{◌≡◌, drop, take}
use Rattle.std.specs.List.{flat_map}
use Rattle.outer_world.proofs.Prints.{Prints}
use Rattle.jack_debug.specs.MapText.{point_line}
use Rattle.jack_debug.proofs.map_printing.put_points.Given as goal

abbrev pub invariant-loop-range : goal.invariant-loop-range
invariant-loop-range g l = (l.out.sink.ghost_name ≡ l.fn.out.sink.ghost_name)
    × Prints (flat_map (point_line l.places) l.ranges) (flat_map (point_line l.places) (drop l.range-index l.ranges)) (g.S.Sink.state l.fn.out.sink.now) (take l.fn.out.len l.fn.out.buffer)
    (g.S.Sink.state l.out.sink.now) (take l.out.len l.out.buffer)

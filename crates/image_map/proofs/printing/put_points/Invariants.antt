-- The lines of the ranges so far have been handed to the buffer.
use Rattle.std.proofs.Common.{◌≡◌, drop, take, map}
use Rattle.std.specs.List.{flat_map}
use Rattle.outer_world.proofs.Prints.{Prints}
use Rattle.image_map.specs.Text.{point_line}
use Rattle.image_map.proofs.printing.put_points.Given as goal

abbrev pub invariant-loop-range : goal.invariant-loop-range
invariant-loop-range g l = (l.out.sink.ghost_name ≡ l.fn.out.sink.ghost_name)
    × Prints (flat_map (point_line (map (λ n. n.now) l.names)) l.points) (flat_map (point_line (map (λ n. n.now) l.names)) (drop l.range-index l.points)) (g.S.Sink.state l.fn.out.sink.now) (take l.fn.out.len l.fn.out.buffer)
    (g.S.Sink.state l.out.sink.now) (take l.out.len l.out.buffer)

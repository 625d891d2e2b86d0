-- The lines of the statics so far have been handed to the buffer.
use Rattle.std.proofs.Common.{◌≡◌, drop, take}
use Rattle.std.specs.List.{flat_map}
use Rattle.outer_world.proofs.Prints.{Prints}
use Rattle.jack_debug.specs.MapText.{static_line}
use Rattle.jack_debug.proofs.map_printing.put_statics.Given as goal

abbrev pub invariant-loop-variable : goal.invariant-loop-variable
invariant-loop-variable g l = (l.out.sink.ghost_name ≡ l.fn.out.sink.ghost_name)
    × Prints (flat_map (static_line l.class) l.statics) (flat_map (static_line l.class) (drop l.variable-index l.statics)) (g.S.Sink.state l.fn.out.sink.now) (take l.fn.out.len l.fn.out.buffer)
    (g.S.Sink.state l.out.sink.now) (take l.out.len l.out.buffer)

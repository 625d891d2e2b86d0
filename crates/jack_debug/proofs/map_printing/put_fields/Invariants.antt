-- The lines of the fields so far have been handed to the buffer.
use Rattle.std.proofs.Common.{◌≡◌, drop, take}
use Rattle.outer_world.proofs.Prints.{Prints}
use Rattle.jack_debug.specs.MapText.{field_lines}
use Rattle.jack_debug.proofs.map_printing.put_fields.Given as goal

abbrev pub invariant-loop-k : goal.invariant-loop-k
invariant-loop-k g l = (l.out.sink.ghost_name ≡ l.fn.out.sink.ghost_name)
    × Prints (field_lines l.class 0 l.names) (field_lines l.class l.k (drop l.k l.names)) (g.S.Sink.state l.fn.out.sink.now) (take l.fn.out.len l.fn.out.buffer)
    (g.S.Sink.state l.out.sink.now) (take l.out.len l.out.buffer)

-- The lines of the variables so far have been handed to the buffer.
use Rattle.std.proofs.Common.{◌≡◌, drop, take, ◌+◌}
use Rattle.outer_world.proofs.Prints.{Prints}
use Rattle.jack_debug.specs.MapText.{variable_lines}
use Rattle.jack_debug.proofs.map_printing.put_variables.Given as goal

abbrev pub invariant-loop-i : goal.invariant-loop-i
invariant-loop-i g l = (l.out.sink.ghost_name ≡ l.fn.out.sink.ghost_name)
    × Prints (variable_lines l.sub l.kind l.first l.names) (variable_lines l.sub l.kind (l.first + l.i) (drop l.i l.names)) (g.S.Sink.state l.fn.out.sink.now) (take l.fn.out.len l.fn.out.buffer)
    (g.S.Sink.state l.out.sink.now) (take l.out.len l.out.buffer)

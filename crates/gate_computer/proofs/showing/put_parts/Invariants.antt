-- The lines of the parts so far have been handed to the buffer.
use Rattle.std.proofs.Common.{◌≡◌, drop, take}
use Rattle.netlist.specs.Present.{value_in}
use Rattle.gate_computer.specs.Inner.Reading.{wired_text}
use Rattle.outer_world.proofs.Prints.{Prints}
use Rattle.gate_computer.proofs.showing.put_parts.Given as goal

abbrev pub invariant-loop-part : goal.invariant-loop-part
invariant-loop-part g l = (l.out.sink.ghost_name ≡ l.fn.out.sink.ghost_name)
    × Prints (wired_text (value_in l.sim.values) l.parts) (wired_text (value_in l.sim.values) (drop l.part-index l.parts)) (g.S.Sink.state l.fn.out.sink.now) (take l.fn.out.len l.fn.out.buffer)
    (g.S.Sink.state l.out.sink.now) (take l.out.len l.out.buffer)

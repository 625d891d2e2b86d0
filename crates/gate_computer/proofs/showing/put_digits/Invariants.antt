-- The digits of the nodes so far have been handed to the buffer.
use Rattle.std.proofs.Common.{◌≡◌, drop, take}
use Rattle.std.specs.Prelude.{map}
use Rattle.netlist.specs.Present.{value_in}
use Rattle.gate_computer.specs.Parts.{digit}
use Rattle.outer_world.proofs.Prints.{Prints}
use Rattle.gate_computer.proofs.showing.put_digits.Given as goal

abbrev pub invariant-loop-node : goal.invariant-loop-node
invariant-loop-node g l = (l.out.sink.ghost_name ≡ l.fn.out.sink.ghost_name)
    × Prints (map (λ node. digit (value_in l.sim.values node)) l.nodes) (map (λ node. digit (value_in l.sim.values node)) (drop l.node-index l.nodes)) (g.S.Sink.state l.fn.out.sink.now) (take l.fn.out.len l.fn.out.buffer)
    (g.S.Sink.state l.out.sink.now) (take l.out.len l.out.buffer)

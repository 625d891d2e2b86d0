use Rattle.std.proofs.Common.{◌≤◌}
use Rattle.netlist.specs.Present.{value_in}
use Rattle.netlist.specs.Words.{word_at}
use Rattle.gate_sim.specs.Inner.Slots.{bits_of, Passes}
use Rattle.gate_sim.proofs.pass.pass_run.Given as goal

abbrev pub invariant-loop-q : goal.invariant-loop-q
invariant-loop-q g l = record {
  more : l.fn.steps ≤ l.steps;
  passes : Passes l.nodes l.blocks l.lanes l.places (value_in (bits_of l.places l.start)) (word_at l.memory) (value_in l.written) l.whole l.from l.q l.fn.slots l.slots l.fn.steps l.steps;
}

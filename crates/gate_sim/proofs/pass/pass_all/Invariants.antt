use Rattle.std.proofs.Common.{◌≤◌, length}
use Rattle.netlist.specs.Present.{value_in}
use Rattle.netlist.specs.Words.{word_at}
use Rattle.gate_sim.specs.Inner.Slots.{bits_of, Passes}
use Rattle.gate_sim.proofs.pass.pass_all.Given as goal

abbrev pub invariant-loop-s : goal.invariant-loop-s
invariant-loop-s g l = record {
  inside : l.from ≤ length l.ops;
  more : l.fn.steps ≤ l.steps;
  passes : Passes l.nodes l.blocks l.lanes l.places (value_in (bits_of l.places l.start)) (word_at l.memory) (value_in l.written) l.whole 0 l.from l.fn.slots l.slots l.fn.steps l.steps;
}

use Rattle.std.proofs.Common.{◌≡◌, ◌<◌, ◌^◌, drop, min}
use Rattle.netlist.specs.Value.{spelled_number}
use Rattle.gate_sim.specs.Inner.Slots.{value_at}
use Rattle.gate_sim.proofs.pass.number.Given as goal

abbrev pub invariant-loop-k : goal.invariant-loop-k
invariant-loop-k l = record {
  below : l.number < 2 ^ 33;
  value : min l.number 4294967296 ≡ min (spelled_number (value_at l.places l.slots) (drop l.k l.nodes)) 4294967296;
}

-- The pins before place k hold the new key.
use Rattle.std.proofs.Common.{◌≡◌, List}
use Rattle.gate_sim.specs.Calls.{Call, pins_of}
use Rattle.gate_sim.specs.Stands.{StandsFor}
use Rattle.gate_computer.specs.Calls.{HoldsKey}
use Rattle.gate_computer.specs.Inner.Told.{HoldsPart, HasSet}
use Rattle.gate_computer.proofs.reading.set_keyboard.Given as goal

abbrev pub invariant-loop-k : goal.invariant-loop-k
invariant-loop-k l = record {
  net : l.sim.net ≡ l.fn.sim.net;
  told : (calls : List Call) → StandsFor l.fn.sim calls → HoldsKey l.keyboard l.old (pins_of l.fn.sim.net.nodes calls) → HasSet l.sim calls (HoldsPart l.keyboard l.k l.key l.old);
}

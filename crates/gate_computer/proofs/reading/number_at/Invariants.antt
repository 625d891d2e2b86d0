-- The bits from place k on are read.
use Rattle.std.proofs.Common.{◌≡◌, drop}
use Rattle.netlist.specs.Value.{spelled_number}
use Rattle.netlist.specs.Present.{value_in}
use Rattle.gate_computer.proofs.reading.number_at.Given as goal

abbrev pub invariant-loop-k : goal.invariant-loop-k
invariant-loop-k l = l.number ≡ spelled_number (value_in l.sim.values) (drop l.k l.nodes)

use Rattle.std.proofs.Common.{◌≡◌}
use Rattle.gate_tests.proofs.bench.set_number.Given as goal

abbrev pub invariant-loop-node : goal.invariant-loop-node
invariant-loop-node l = l.sim.net ≡ l.initial.sim.net

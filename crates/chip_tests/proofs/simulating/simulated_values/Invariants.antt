use Rattle.std.proofs.Common.{◌≡◌}
use Rattle.chip_tests.proofs.simulating.simulated_values.Given as goal

abbrev pub invariant-loop-c : goal.invariant-loop-c
invariant-loop-c l = l.sim.net ≡ l.fn.sim.net

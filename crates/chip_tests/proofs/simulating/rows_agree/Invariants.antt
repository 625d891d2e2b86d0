use Rattle.std.proofs.Common.{◌≡◌}
use Rattle.chip_tests.proofs.simulating.rows_agree.Given as goal

abbrev pub invariant-loop : goal.invariant-loop
invariant-loop l = l.sim.net ≡ l.fn.sim.net

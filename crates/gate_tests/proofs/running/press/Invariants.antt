use Rattle.std.proofs.Common.{◌≡◌}
use Rattle.gate_tests.proofs.running.press.Given as goal

abbrev pub invariant-loop-key : goal.invariant-loop-key
invariant-loop-key l = l.computer.moves ≡ l.key-index

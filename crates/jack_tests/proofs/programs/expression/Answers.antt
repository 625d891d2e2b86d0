use Rattle.jack_tests.proofs.Calls.{expression_four}
use Rattle.jack_tests.proofs.programs.expression.Goals as goal

pub returns : goal.returns
returns c = expression_four (record { parts = c.in_ok-kept.kept; one = c.result-1.given.0 }) (rw c.in_ok-kept.ensures c.loop-part.invariant.1)

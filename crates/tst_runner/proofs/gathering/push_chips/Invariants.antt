use Rattle.std.proofs.Common.{◌≡◌, ◌++◌, drop, map}
use Rattle.std.specs.Prelude.{reverse}
use Rattle.tst_runner.proofs.gathering.push_chips.Given as goal

abbrev pub invariant-loop-k : goal.invariant-loop-k
invariant-loop-k l = l.stack.items ≡ l.fn.stack.items ++ reverse (map (λ part. part.chip) (drop l.k l.parts))

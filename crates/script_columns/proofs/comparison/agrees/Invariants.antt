use Rattle.std.proofs.Common.{◌≡◌, drop}
use Rattle.script_columns.specs.Comparison.{agrees}
use Rattle.script_columns.proofs.comparison.agrees.Given as goal

abbrev pub invariant-loop-k : goal.invariant-loop-k
invariant-loop-k l = agrees (drop l.k l.compared) (drop l.k l.line) ≡ agrees l.compared l.line

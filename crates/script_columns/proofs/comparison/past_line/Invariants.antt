use Rattle.std.proofs.Common.{◌≡◌, ◌+◌, drop}
use Rattle.script_columns.specs.Inner.Cut.{past_first}
use Rattle.script_columns.proofs.comparison.past_line.Given as goal

abbrev pub invariant-loop-k : goal.invariant-loop-k
invariant-loop-k l = past_first l.text ≡ l.k + past_first (drop l.k l.text)

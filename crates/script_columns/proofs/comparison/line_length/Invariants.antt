use Rattle.std.proofs.Common.{◌≡◌, ◌+◌, drop}
use Rattle.script_columns.specs.Inner.Cut.{line_length}
use Rattle.script_columns.proofs.comparison.line_length.Given as goal

abbrev pub invariant-loop-k : goal.invariant-loop-k
invariant-loop-k l = line_length l.text ≡ l.k + line_length (drop l.k l.text)

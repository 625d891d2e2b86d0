use Rattle.std.proofs.Common.{◌≡◌, ◌++◌}
use Rattle.script_columns.specs.Columns.{blanks}
use Rattle.script_columns.proofs.columns.push_blanks.Given as goal

abbrev pub invariant-loop : goal.invariant-loop
invariant-loop l = l.line.items ≡ l.fn.line.items ++ blanks l.counter

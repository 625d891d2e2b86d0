use Rattle.std.proofs.Common.{◌≡◌, ◌≤◌, length, drop}
use Rattle.script_columns.specs.Comparison.{lines_of}
use Rattle.script_columns.proofs.comparison.past_lines.Given as goal

abbrev pub invariant-loop : goal.invariant-loop
invariant-loop l = record {
  within : l.at ≤ length l.text;
  rest : lines_of (drop l.at l.text) ≡ drop l.counter (lines_of l.text);
}

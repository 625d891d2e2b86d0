use Rattle.std.proofs.Common.{◌≡◌, take}
use Rattle.script_columns.specs.Columns.{line_text}
use Rattle.script_columns.proofs.columns.value_line.Given as goal

abbrev pub invariant-loop-cell : goal.invariant-loop-cell
invariant-loop-cell l = l.line.items ≡ line_text (take l.cell-index l.cells)

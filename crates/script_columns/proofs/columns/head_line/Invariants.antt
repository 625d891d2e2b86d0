use Rattle.std.proofs.Common.{◌≡◌, take}
use Rattle.script_columns.specs.Columns.{head_text}
use Rattle.script_columns.proofs.columns.head_line.Given as goal

abbrev pub invariant-loop-head : goal.invariant-loop-head
invariant-loop-head l = l.line.items ≡ head_text (take l.head-index l.heads)

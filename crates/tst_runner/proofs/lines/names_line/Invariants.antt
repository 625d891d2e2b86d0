use Rattle.std.proofs.Common.{◌≡◌, take}
use Rattle.tst_runner.specs.Lines.{head_line}
use Rattle.tst_runner.proofs.lines.names_line.Given as goal

abbrev pub invariant-loop-item : goal.invariant-loop-item
invariant-loop-item l = l.line.items ≡ head_line (take l.item-index l.items)

use Rattle.std.proofs.Common.{◌≡◌, drop, max}
use Rattle.vm_link.specs.Faults.{words_of_lines}
use Rattle.vm_link.proofs.statics.words_of_lines.Given as goal

abbrev pub invariant-loop-line : goal.invariant-loop-line
invariant-loop-line l = max l.words (words_of_lines (drop l.line-index l.lines)) ≡ words_of_lines l.lines

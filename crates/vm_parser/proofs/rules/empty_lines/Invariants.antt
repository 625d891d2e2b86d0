use Rattle.std.proofs.Common.{length, ℕ, map}
use Rattle.grammar.specs.Rules.{repeat}
use Rattle.grammar.proofs.Continues.{Continues}
use Rattle.vm_parser.specs.Tokens.{Word, view}
use Rattle.vm_parser.specs.Grammar.{Said, vm, line_end, greatest}
use Rattle.vm_parser.proofs.Lines.{more_lines}
use Rattle.vm_parser.proofs.rules.empty_lines.Given as goal

abbrev pub invariant-lines : goal.invariant-lines
invariant-lines l = (n : ℕ) × Continues Word ℕ (Unit {0}) Said (vm l.end) (repeat line_end) greatest (map view l.tokens) (more_lines n) (repeat line_end) greatest (map view l.rest)

abbrev pub decreases-lines : goal.decreases-lines
decreases-lines l = length l.rest

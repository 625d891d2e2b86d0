use Rattle.std.proofs.Common.{length, ℕ, Option}
use Rattle.grammar.proofs.Repeats.{Along}
use Rattle.hack_asm.specs.declared.hack_tokens.Kind.{Kind}
use Rattle.hack_asm.specs.HackTokens.{Word as Token}
use Rattle.hack_asm.specs.HackText.{hack, line, line_tree, AreLines}
use Rattle.hack_asm.proofs.hack_lines.lines.Given as goal

abbrev pub invariant-lines : goal.invariant-lines
invariant-lines l = record {
  along : Along Token (Unit {0}) (Unit {0}) Kind (Option ℕ) (hack l.end) line line_tree tt l.tokens l.lines.items tt l.rest;
  words : AreLines l.lines.items;
}

abbrev pub decreases-lines : goal.decreases-lines
decreases-lines l = length l.rest

use Rattle.std.proofs.Common.{◌≡◌, length, ℕ, true}
use Rattle.grammar.proofs.Repeats.{Along}
use Rattle.key_script.specs.Tokens.{Word as Token}
use Rattle.key_script.specs.declared.lines.Line.{Line}
use Rattle.key_script.specs.declared.token.Kind.{Kind}
use Rattle.key_script.specs.Codes.{are_rising}
use Rattle.key_script.specs.Grammar.{script, line, line_tree, after_lines}
use Rattle.key_script.proofs.lines.lines.Given as goal

abbrev pub invariant-lines : goal.invariant-lines
invariant-lines l = record {
  along : Along Token ℕ (Unit {0}) Kind Line (script l.end) line line_tree 0 l.tokens l.lines.items l.least l.rest;
  least : l.least ≡ after_lines 0 l.lines.items;
  rising : are_rising 0 l.lines.items ≡ true;
}

abbrev pub decreases-lines : goal.decreases-lines
decreases-lines l = length l.rest

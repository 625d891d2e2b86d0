use Rattle.std.proofs.Common.{◌≤◌, ◌+◌, ◌*◌, length, map}
use Rattle.grammar.specs.Rules.{name}
use Rattle.grammar.proofs.Repeats.{Along}
use Rattle.jack_tree.specs.declared.tree.Statement.{Statement}
use Rattle.jack_tree.specs.Tokens.{Word, view}
use Rattle.jack_parser.specs.declared.counts.Counts.{Counts}
use Rattle.jack_parser.specs.Grammar.{jack, Part, Said, statement}
use Rattle.jack_parser.specs.StatementTrees.{statement_tree}
use Rattle.jack_parser.proofs.statements.+statements.Given as goal

abbrev pub decreases-statements : goal.decreases-statements
decreases-statements l = 4 * length l.tokens.now + 3

abbrev pub decreases-statement : goal.decreases-statement
decreases-statement l = 4 * length l.tokens.now + 2

abbrev pub decreases-any_statement : goal.decreases-any_statement
decreases-any_statement l = 4 * length l.tokens.now + 1

abbrev pub decreases-if_statement : goal.decreases-if_statement
decreases-if_statement l = 4 * length l.tokens.now

abbrev pub decreases-while_statement : goal.decreases-while_statement
decreases-while_statement l = 4 * length l.tokens.now

abbrev pub decreases-else_block : goal.decreases-else_block
decreases-else_block l = 4 * length l.tokens.now

abbrev pub decreases-block : goal.decreases-block
decreases-block l = 4 * length l.tokens.now

abbrev pub invariant-statements-statements : goal.invariant-statements-statements
invariant-statements-statements l = record {
  along : Along Word Counts Part Said Statement (jack l.end) (name statement) statement_tree l.counts (map view l.tokens) l.statements.items l.counts (map view l.rest);
  no_longer : length l.rest ≤ length l.tokens;
}

abbrev pub decreases-statements-statements : goal.decreases-statements-statements
decreases-statements-statements l = length l.rest

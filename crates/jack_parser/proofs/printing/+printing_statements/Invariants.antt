use Rattle.std.proofs.Common.{[], take}
use Rattle.scan_text.specs.Text.{start}
use Rattle.grammar.specs.Rules.{name}
use Rattle.jack_parser.specs.Grammar.{jack, statement}
use Rattle.jack_parser.specs.StatementTrees.{statement_tree, statements_tree}
use Rattle.jack_parser.specs.Printed.{said_text}
use Rattle.jack_parser.proofs.Parts.{parts}
use Rattle.grammar.proofs.Shown.{ShowsEach}
use Rattle.jack_parser.proofs.printing.+printing_statements.Given as goal

abbrev pub invariant-put_statements-loop-one : goal.invariant-put_statements-loop-one
invariant-put_statements-loop-one g l = ShowsEach (jack start) said_text [] statement_tree (name statement) (take l.one-index l.statements) l.fn.status l.fn.out l.status l.out

abbrev pub decreases-put_statement : goal.decreases-put_statement
decreases-put_statement g l = parts (statement_tree l.one.now)

abbrev pub decreases-put_statements : goal.decreases-put_statements
decreases-put_statements g l = parts (statements_tree l.statements.now)

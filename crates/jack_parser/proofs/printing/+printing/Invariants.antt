use Rattle.std.proofs.Common.{[], take}
use Rattle.scan_text.specs.Text.{start}
use Rattle.jack_parser.specs.Grammar.{jack, next_argument, operation}
use Rattle.jack_parser.specs.Trees.{next_tree, operation_tree}
use Rattle.jack_parser.specs.Printed.{said_text}
use Rattle.grammar.proofs.Shown.{ShowsEach}
use Rattle.jack_parser.proofs.Shown.{head_text}
use Rattle.jack_parser.proofs.printing.+printing.Given as goal

abbrev pub invariant-put_arguments-loop-value : goal.invariant-put_arguments-loop-value
invariant-put_arguments-loop-value g l = ShowsEach (jack start) said_text (head_text l.fn.values) next_tree next_argument (take l.value-index l.rest) l.fn.status l.fn.out l.status l.out

abbrev pub invariant-put_operations-loop-one : goal.invariant-put_operations-loop-one
invariant-put_operations-loop-one g l = ShowsEach (jack start) said_text [] operation_tree operation (take l.one-index l.operations) l.fn.status l.fn.out l.status l.out

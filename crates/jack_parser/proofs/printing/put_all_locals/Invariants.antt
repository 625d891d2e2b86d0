use Rattle.std.proofs.Common.{[], take}
use Rattle.scan_text.specs.Text.{start}
use Rattle.jack_parser.specs.Grammar.{jack, locals_rule}
use Rattle.jack_parser.specs.ClassTrees.{locals_tree}
use Rattle.jack_parser.specs.Printed.{said_text}
use Rattle.grammar.proofs.Shown.{ShowsEach}
use Rattle.jack_parser.proofs.printing.put_all_locals.Given as goal

abbrev pub invariant-loop-one : goal.invariant-loop-one
invariant-loop-one g l = ShowsEach (jack start) said_text [] locals_tree locals_rule (take l.one-index l.all) l.fn.status l.fn.out l.status l.out

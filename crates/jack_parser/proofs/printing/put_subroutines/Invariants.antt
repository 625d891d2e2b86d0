use Rattle.std.proofs.Common.{[], take}
use Rattle.scan_text.specs.Text.{start}
use Rattle.jack_parser.specs.Grammar.{jack, subroutine}
use Rattle.jack_parser.specs.ClassTrees.{subroutine_tree}
use Rattle.jack_parser.specs.Printed.{said_text}
use Rattle.grammar.proofs.Shown.{ShowsEach}
use Rattle.jack_parser.proofs.printing.put_subroutines.Given as goal

abbrev pub invariant-loop-one : goal.invariant-loop-one
invariant-loop-one g l = ShowsEach (jack start) said_text [] subroutine_tree subroutine (take l.one-index l.all) l.fn.status l.fn.out l.status l.out

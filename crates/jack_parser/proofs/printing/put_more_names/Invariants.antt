use Rattle.std.proofs.Common.{[], take}
use Rattle.scan_text.specs.Text.{start}
use Rattle.jack_parser.specs.declared.counts.Counted.{Counted}
use Rattle.jack_parser.specs.Grammar.{jack, next_name}
use Rattle.jack_parser.specs.ClassTrees.{next_name_tree}
use Rattle.jack_parser.specs.Printed.{said_text}
use Rattle.grammar.proofs.Shown.{ShowsEach}
use Rattle.jack_parser.proofs.printing.put_more_names.Given as goal

abbrev pub invariant-loop-one : goal.invariant-loop-one
invariant-loop-one g l = (x : Counted) → ShowsEach (jack start) said_text [] next_name_tree (next_name x) (take l.one-index l.names) l.fn.status l.fn.out l.status l.out

use Rattle.std.proofs.Common.{[], take}
use Rattle.scan_text.specs.Text.{start}
use Rattle.hdl_parser.specs.Grammar.{hdl, next_of, pin}
use Rattle.hdl_parser.specs.Trees.{next_tree, pin_tree}
use Rattle.hdl_parser.specs.Printed.{said_text}
use Rattle.grammar.proofs.Shown.{ShowsEach}
use Rattle.hdl_parser.proofs.printing.put_more_pins.Given as goal

abbrev pub invariant-loop-one : goal.invariant-loop-one
invariant-loop-one g l = ShowsEach (hdl start) said_text [] (next_tree pin_tree) (next_of pin) (take l.one-index l.all) l.fn.status l.fn.out l.status l.out

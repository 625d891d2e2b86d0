use Rattle.std.proofs.Common.{[], take}
use Rattle.scan_text.specs.Text.{start}
use Rattle.hdl_parser.specs.Grammar.{hdl, part}
use Rattle.hdl_parser.specs.Trees.{part_tree}
use Rattle.hdl_parser.specs.Printed.{said_text}
use Rattle.grammar.proofs.Shown.{ShowsEach}
use Rattle.hdl_parser.proofs.printing.put_all_parts.Given as goal

abbrev pub invariant-loop-one : goal.invariant-loop-one
invariant-loop-one g l = ShowsEach (hdl start) said_text [] part_tree part (take l.one-index l.all) l.fn.status l.fn.out l.status l.out

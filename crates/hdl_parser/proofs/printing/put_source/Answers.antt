use Rattle.hdl_parser.specs.Grammar.{selection, constant}
use Rattle.grammar.proofs.Shown.{shows_left, shows_right, shows_word}
use Rattle.hdl_parser.proofs.printing.put_source.Goals as goal

pub returns-in-Net : goal.returns-in-Net
returns-in-Net g c = rw c.in-Net.is (shows_left {m = selection} {n = constant} c.put_selection.ensures)

pub returns-in-Constant : goal.returns-in-Constant
returns-in-Constant g c = rw c.in-Constant.is (shows_right {m = selection} {n = constant} (shows_word (rw c.truth.ensures at c.put_keyword.ensures)))

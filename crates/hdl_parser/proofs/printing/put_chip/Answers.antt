use Rattle.grammar.proofs.Shown.{shows_both, shows_mark, shows_word}
use Rattle.hdl_parser.proofs.printing.put_chip.Goals as goal

pub returns : goal.returns
returns g c = shows_both (shows_mark c.put_keyword-begun.ensures) (shows_both (shows_word c.put_name-named.ensures) (shows_both (shows_mark c.put_symbol-opened.ensures) (shows_both (rw c.as_slice.ensures at c.put_pins-entered.ensures) (shows_both (rw c.as_slice-2.ensures at c.put_pins-left.ensures) (shows_both c.put_body-made.ensures (shows_mark c.put_symbol.ensures))))))

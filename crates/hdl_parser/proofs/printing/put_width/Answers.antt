use Rattle.grammar.proofs.Shown.{shows_absent, shows_present, shows_both, shows_mark, shows_word}
use Rattle.hdl_parser.proofs.printing.put_width.Goals as goal

pub returns-in-None : goal.returns-in-None
returns-in-None g c = rw c.in-None.is shows_absent

pub returns-in-Some : goal.returns-in-Some
returns-in-Some g c = rw c.in-Some.is (shows_present (shows_both (shows_mark c.put_symbol-opened.ensures) (shows_both (shows_word c.put_number-counted.ensures) (shows_mark c.put_symbol.ensures))))

use Rattle.grammar.proofs.Shown.{shows_both, shows_mark, shows_word}
use Rattle.hdl_parser.proofs.printing.put_part.Goals as goal

pub returns : goal.returns
returns g c = shows_both (shows_word c.put_name-named.ensures) (shows_both (shows_mark c.put_symbol-opened.ensures) (shows_both (rw c.as_slice.ensures at c.put_connections-connected.ensures) (shows_both (shows_mark c.put_symbol-closed.ensures) (shows_mark c.put_symbol.ensures))))

use Rattle.grammar.proofs.Shown.{shows_both, shows_mark, shows_word}
use Rattle.hdl_parser.proofs.printing.put_builtin.Goals as goal

pub returns : goal.returns
returns g c = shows_both (shows_mark c.put_keyword-begun.ensures) (shows_both (shows_word c.put_name-named.ensures) (shows_both (shows_mark c.put_symbol-closed.ensures) c.put_clocked.ensures))

use Rattle.grammar.proofs.Shown.{shows_both, shows_mark}
use Rattle.hdl_parser.proofs.printing.put_next_connection.Goals as goal

pub returns : goal.returns
returns g c = shows_both (shows_mark c.put_symbol-separated.ensures) c.put_connection.ensures

use Rattle.grammar.proofs.Shown.{shows_both, shows_mark}
use Rattle.hdl_parser.proofs.printing.put_connection.Goals as goal

pub returns : goal.returns
returns g c = shows_both c.put_selection-named.ensures (shows_both (shows_mark c.put_symbol-joined.ensures) c.put_source.ensures)

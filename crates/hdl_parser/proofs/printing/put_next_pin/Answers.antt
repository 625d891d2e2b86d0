use Rattle.grammar.proofs.Shown.{shows_both, shows_mark}
use Rattle.hdl_parser.proofs.printing.put_next_pin.Goals as goal

pub returns : goal.returns
returns g c = shows_both (shows_mark c.put_symbol-separated.ensures) c.put_pin.ensures

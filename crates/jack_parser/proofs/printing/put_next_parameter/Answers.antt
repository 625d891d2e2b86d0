use Rattle.grammar.proofs.Shown.{shows_both, shows_mark}
use Rattle.jack_parser.proofs.printing.put_next_parameter.Goals as goal

pub returns : goal.returns
returns g c = shows_both (shows_mark c.put_symbol-separated.ensures) (c.put_parameter.ensures)

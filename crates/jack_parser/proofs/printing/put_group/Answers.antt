use Rattle.grammar.proofs.Shown.{shows_both, shows_inside, shows_mark}
use Rattle.jack_parser.proofs.printing.put_group.Goals as goal

pub returns : goal.returns
returns g c = shows_both (shows_mark c.put_symbol-opened.ensures) (shows_both (shows_inside c.put_expression-inside.ensures) (shows_mark c.put_symbol.ensures))

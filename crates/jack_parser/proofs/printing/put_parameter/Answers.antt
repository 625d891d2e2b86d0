use Rattle.grammar.proofs.Shown.{shows_both, shows_word}
use Rattle.jack_parser.proofs.printing.put_parameter.Goals as goal

pub returns : goal.returns
returns g c = shows_both (shows_word c.put_type-typed.ensures) (shows_word c.put_name.ensures)

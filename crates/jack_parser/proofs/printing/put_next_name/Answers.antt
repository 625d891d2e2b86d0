use Rattle.grammar.proofs.Shown.{shows_both, shows_mark, shows_word}
use Rattle.jack_parser.proofs.printing.put_next_name.Goals as goal

pub returns : goal.returns
returns g c = λ x. shows_both (shows_mark c.put_symbol-separated.ensures) (shows_word c.put_name.ensures)

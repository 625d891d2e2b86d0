use Rattle.grammar.proofs.Shown.{shows_both, shows_word}
use Rattle.jack_parser.proofs.printing.put_names.Goals as goal

pub returns : goal.returns
returns g c = λ x. shows_both (shows_word c.put_name-begun.ensures) (rw c.deref.ensures.value at (c.put_more_names.ensures x))

use Rattle.grammar.proofs.Shown.{shows_both, shows_mark, shows_word}
use Rattle.jack_parser.proofs.printing.put_declaration.Goals as goal

pub returns : goal.returns
returns g c = λ x. shows_both (shows_mark c.put_keyword-begun.ensures) (shows_both (shows_word c.put_type-typed.ensures) (shows_both (c.put_names-named.ensures x) (shows_mark c.put_symbol.ensures)))

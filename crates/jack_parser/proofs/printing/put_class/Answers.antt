use Rattle.grammar.proofs.Shown.{shows_both, shows_mark, shows_word}
use Rattle.jack_parser.proofs.printing.put_class.Goals as goal

pub returns : goal.returns
returns g c = shows_both (shows_mark c.put_keyword-begun.ensures) (shows_both (shows_word c.put_name-named.ensures) (shows_both (shows_mark c.put_symbol-opened.ensures) (shows_both (rw c.deref.ensures.value at c.put_all_variables-declared.ensures) (shows_both (rw c.deref-2.ensures.value at c.put_subroutines-defined.ensures) (shows_mark c.put_symbol.ensures)))))

use Rattle.grammar.proofs.Shown.{shows_both, shows_inside, shows_mark, shows_word}
use Rattle.jack_parser.proofs.printing.put_subroutine.Goals as goal

pub returns : goal.returns
returns g c = shows_inside (shows_both (shows_word c.put_form-formed.ensures) (shows_both (shows_word c.put_result-typed.ensures) (shows_both (shows_word c.put_name-named.ensures) (shows_both (shows_mark c.put_symbol-opened.ensures) (shows_both (rw c.deref.ensures.value at c.put_parameters-taken.ensures) (shows_both (shows_mark c.put_symbol-closed.ensures) (shows_both (shows_mark c.put_symbol-begun.ensures) (shows_both (rw c.deref-2.ensures.value at c.put_all_locals-declared.ensures) (shows_both (rw c.deref-3.ensures.value at c.put_statements-stated.ensures) (shows_word c.put_symbol.ensures))))))))))

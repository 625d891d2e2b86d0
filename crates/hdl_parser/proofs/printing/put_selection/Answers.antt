use Rattle.grammar.proofs.Shown.{shows_both, shows_word}
use Rattle.hdl_parser.proofs.printing.put_selection.Goals as goal

pub returns : goal.returns
returns g c = shows_both (shows_word c.put_name-named.ensures) c.put_subscript.ensures

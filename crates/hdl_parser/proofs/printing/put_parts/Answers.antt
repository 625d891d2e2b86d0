use Rattle.grammar.proofs.Shown.{shows_both, shows_mark}
use Rattle.hdl_parser.proofs.printing.put_parts.Goals as goal

pub returns : goal.returns
returns g c = shows_both (shows_mark c.put_keyword-begun.ensures) (shows_both (shows_mark c.put_symbol-opened.ensures) c.put_all_parts.ensures)

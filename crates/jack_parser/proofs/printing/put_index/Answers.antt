use Rattle.grammar.proofs.Shown.{shows_absent, shows_present}
use Rattle.jack_parser.proofs.printing.put_index.Goals as goal

pub returns-in-None : goal.returns-in-None
returns-in-None g c = rw c.in-None.is shows_absent

pub returns-in-Some : goal.returns-in-Some
returns-in-Some g c = rw (c.in-Some.is, ← c.deref.ensures) (shows_present c.put_subscript.ensures)

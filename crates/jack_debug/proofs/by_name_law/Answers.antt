use Rattle.jack_debug.proofs.Ordered as ordered
use Rattle.jack_debug.proofs.by_name_law.Goals as goal

pub returns : goal.returns
returns c = ordered.by_name_law

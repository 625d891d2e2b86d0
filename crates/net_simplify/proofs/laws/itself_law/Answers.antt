use Rattle.net_simplify.proofs.Itself.{shows_itself}
use Rattle.net_simplify.proofs.laws.itself_law.Goals as goal

pub returns : goal.returns
returns c = shows_itself

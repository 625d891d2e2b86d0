use Rattle.elab_laws.proofs.Same.{shown_same}
use Rattle.elab_laws.proofs.same_law.Goals as goal

pub returns : goal.returns
returns c = shown_same

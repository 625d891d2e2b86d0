use Rattle.link_laws.proofs.Law.{law}
use Rattle.link_laws.proofs.link_law.Goals as goal

pub returns : goal.returns
returns c = law

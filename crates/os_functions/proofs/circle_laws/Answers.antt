use Rattle.os_functions.proofs.CircleMade.{law}
use Rattle.os_functions.proofs.circle_laws.Goals as goal

pub returns : goal.returns
returns c = law

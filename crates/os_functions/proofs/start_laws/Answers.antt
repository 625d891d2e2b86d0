use Rattle.os_functions.proofs.StartFacts.{law}
use Rattle.os_functions.proofs.start_laws.Goals as goal

pub returns : goal.returns
returns c = law

use Rattle.os_functions.proofs.ArrayMade.{law}
use Rattle.os_functions.proofs.array_laws.Goals as goal

pub returns : goal.returns
returns c = law

use Rattle.os_functions.proofs.ClearMade.{law}
use Rattle.os_functions.proofs.rectangle_laws.Goals as goal

pub returns : goal.returns
returns c = law

use Rattle.os_functions.proofs.LineMade.{law}
use Rattle.os_functions.proofs.line_laws.Goals as goal

pub returns : goal.returns
returns c = law

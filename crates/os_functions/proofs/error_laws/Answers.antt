use Rattle.os_functions.proofs.TextMade.{law}
use Rattle.os_functions.proofs.error_laws.Goals as goal

pub returns : goal.returns
returns c = law

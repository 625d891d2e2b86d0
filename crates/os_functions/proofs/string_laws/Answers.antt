use Rattle.os_functions.proofs.StringMade.{law}
use Rattle.os_functions.proofs.string_laws.Goals as goal

pub returns : goal.returns
returns c = law

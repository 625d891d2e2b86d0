use Rattle.os_strings.proofs.NumbersMade.{law}
use Rattle.os_strings.proofs.number_laws.Goals as goal

pub returns : goal.returns
returns c = law

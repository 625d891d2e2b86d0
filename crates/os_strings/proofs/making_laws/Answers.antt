use Rattle.os_strings.proofs.MakingLawsMade.{law}
use Rattle.os_strings.proofs.making_laws.Goals as goal

pub returns : goal.returns
returns c = law

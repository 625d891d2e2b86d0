use Rattle.os_strings.proofs.KeysMade.{law}
use Rattle.os_strings.proofs.key_laws.Goals as goal

pub returns : goal.returns
returns c = law

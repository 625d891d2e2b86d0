use Rattle.os_start.proofs.LawsMade.{tame}
use Rattle.os_start.proofs.tame_law.Goals as goal

pub returns : goal.returns
returns c = tame

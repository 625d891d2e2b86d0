use Rattle.history_laws.proofs.Shown.{every}
use Rattle.history_laws.proofs.every_law.Goals as goal

pub returns : goal.returns
returns c = every

use Rattle.history_laws.proofs.Shown.{history}
use Rattle.history_laws.proofs.history_law.Goals as goal

pub returns : goal.returns
returns c = history

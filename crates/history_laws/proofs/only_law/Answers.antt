use Rattle.history_laws.proofs.Only.{only}
use Rattle.history_laws.proofs.only_law.Goals as goal

pub returns : goal.returns
returns c = only

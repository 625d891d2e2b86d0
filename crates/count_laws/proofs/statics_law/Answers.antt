use Rattle.count_laws.proofs.Programs.{statics_fit}
use Rattle.count_laws.proofs.statics_law.Goals as goal

pub returns : goal.returns
returns c = statics_fit c.read_law.ensures

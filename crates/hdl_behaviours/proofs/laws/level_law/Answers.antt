use Rattle.hdl_behaviours.proofs.Levels.{loopless}
use Rattle.hdl_behaviours.proofs.laws.level_law.Goals as goal

pub returns : goal.returns
returns c = loopless

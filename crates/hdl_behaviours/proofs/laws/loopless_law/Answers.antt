use Rattle.hdl_behaviours.proofs.Loopless.{loopless}
use Rattle.hdl_behaviours.proofs.laws.loopless_law.Goals as goal

pub returns : goal.returns
returns c = loopless

use Rattle.hdl_behaviours.proofs.Exists.{exists}
use Rattle.hdl_behaviours.proofs.laws.exist_law.Goals as goal

pub returns : goal.returns
returns c = exists

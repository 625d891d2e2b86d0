use Rattle.hdl_elab.proofs.Behaves.{behaves}
use Rattle.hdl_elab.proofs.laws.behaviour_law.Goals as goal

pub returns : goal.returns
returns c = behaves

use Rattle.hdl_elab.proofs.Orderly.{orderly}
use Rattle.hdl_elab.proofs.laws.orderly_law.Goals as goal

pub returns : goal.returns
returns c = orderly

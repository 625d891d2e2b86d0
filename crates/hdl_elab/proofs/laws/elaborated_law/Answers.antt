use Rattle.hdl_elab.proofs.Moves.{elaborated}
use Rattle.hdl_elab.proofs.laws.elaborated_law.Goals as goal

pub returns : goal.returns
returns c = elaborated

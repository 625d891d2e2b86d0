use Rattle.hdl_elab.proofs.Hearing.{hearing}
use Rattle.hdl_elab.proofs.laws.hearing_law.Goals as goal

pub returns : goal.returns
returns c = hearing

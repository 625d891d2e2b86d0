use Rattle.hdl_elab.proofs.Alone.{alone}
use Rattle.hdl_elab.proofs.laws.end_alone_law.Goals as goal

pub returns : goal.returns
returns c = alone

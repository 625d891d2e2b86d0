use Rattle.hdl_behaviours.proofs.Traced.{reads_loop}
use Rattle.hdl_behaviours.proofs.laws.reads_law.Goals as goal

pub returns : goal.returns
returns c = reads_loop

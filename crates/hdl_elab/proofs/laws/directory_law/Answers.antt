use Rattle.hdl_elab.proofs.Hearing.{directory}
use Rattle.hdl_elab.proofs.laws.directory_law.Goals as goal

pub returns : goal.returns
returns c = directory

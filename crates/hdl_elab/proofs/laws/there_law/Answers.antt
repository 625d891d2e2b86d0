use Rattle.hdl_elab.proofs.There.{all_there}
use Rattle.hdl_elab.proofs.laws.there_law.Goals as goal

pub returns : goal.returns
returns c = all_there

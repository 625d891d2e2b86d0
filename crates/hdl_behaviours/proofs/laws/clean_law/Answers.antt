use Rattle.hdl_behaviours.proofs.Clean.{clean_faultless}
use Rattle.hdl_behaviours.proofs.laws.clean_law.Goals as goal

pub returns : goal.returns
returns c = clean_faultless

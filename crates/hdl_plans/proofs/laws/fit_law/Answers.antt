use Rattle.hdl_plans.proofs.Fits.{tree_fits}
use Rattle.hdl_plans.proofs.laws.fit_law.Goals as goal

pub returns : goal.returns
returns c = tree_fits

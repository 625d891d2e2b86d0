use Rattle.hdl_plans.proofs.Circles.{ordered_no_loop}
use Rattle.hdl_plans.proofs.laws.rank_law.Goals as goal

pub returns : goal.returns
returns c = ordered_no_loop

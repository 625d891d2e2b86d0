use Rattle.hdl_plans.proofs.Unjoined.{faultless_plan}
use Rattle.hdl_plans.proofs.laws.plan_law.Goals as goal

pub returns : goal.returns
returns c = faultless_plan

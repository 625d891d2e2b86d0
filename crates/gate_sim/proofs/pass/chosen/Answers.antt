use Rattle.gate_sim.proofs.Lanes.{has_choice}
use Rattle.gate_sim.proofs.pass.chosen.Goals as goal

pub returns : goal.returns
returns c l = has_choice c.args.below c.args.above c.args.mask l

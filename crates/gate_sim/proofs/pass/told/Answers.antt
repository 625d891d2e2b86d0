use Rattle.gate_sim.proofs.Lanes.{has_xor}
use Rattle.gate_sim.proofs.pass.told.Goals as goal

pub returns-clause-change : goal.returns-clause-change
returns-clause-change c l = has_xor c.args.old c.args.value l

use Rattle.gate_sim.proofs.Lanes.{has_nand}
use Rattle.gate_sim.proofs.pass.nands.Goals as goal

pub returns : goal.returns
returns c l less = has_nand c.args.a c.args.b l less

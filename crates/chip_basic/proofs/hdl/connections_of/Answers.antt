use Rattle.std.proofs.Common.{arith}
use Rattle.std.proofs.lemmas.Grind.{common_steps}
use Rattle.chip_basic.proofs.hdl.connections_of.Goals as goal

pub loop-joint-preserved : goal.loop-joint-preserved
loop-joint-preserved c = grind (arith, common_steps)

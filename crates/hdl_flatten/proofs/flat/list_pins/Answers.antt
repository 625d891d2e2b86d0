use Rattle.std.proofs.Common.{arith}
use Rattle.std.proofs.lemmas.Grind.{common_steps}
use Rattle.hdl_flatten.proofs.flat.list_pins.Goals as goal

pub loop-pin-preserved : goal.loop-pin-preserved
loop-pin-preserved c = grind (arith, common_steps)

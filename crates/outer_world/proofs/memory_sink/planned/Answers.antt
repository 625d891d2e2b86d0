use Rattle.std.proofs.Common.{arith}
use Rattle.std.proofs.lemmas.Grind.{common_steps}
use Rattle.outer_world.proofs.memory_sink.planned.Goals as goal

pub loop-fail-preserved : goal.loop-fail-preserved
loop-fail-preserved c = grind (arith, common_steps)

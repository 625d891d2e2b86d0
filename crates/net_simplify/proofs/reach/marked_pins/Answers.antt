use Rattle.std.proofs.Common.{arith}
use Rattle.std.proofs.lemmas.Grind.{common_steps, elements}
use Rattle.net_simplify.proofs.reach.marked_pins.Goals as goal

pub loop-node-preserved : goal.loop-node-preserved
loop-node-preserved c = grind (arith, elements)

pub returns-clause-pins : goal.returns-clause-pins
returns-clause-pins c = grind (arith, elements)

pub returns-clause-only : goal.returns-clause-only
returns-clause-only c = grind (arith, common_steps)

use Rattle.std.proofs.Common.{arith}
use Rattle.std.proofs.lemmas.Grind.{common_steps, elements}
use Rattle.net_simplify.proofs.middle.settled_nodes.Goals as goal

pub settled_node-requires : goal.settled_node-requires
settled_node-requires c = grind (arith, elements)

pub loop-node-preserved : goal.loop-node-preserved
loop-node-preserved c = grind (arith, common_steps)

pub returns : goal.returns
returns c = grind (arith, common_steps)

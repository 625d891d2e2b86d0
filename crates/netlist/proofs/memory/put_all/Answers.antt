use Rattle.std.proofs.Common.{arith}
use Rattle.std.proofs.lemmas.Grind.{common_steps}
use Rattle.netlist.proofs.memory.put_all.Goals as goal

pub loop-k-preserved : goal.loop-k-preserved
loop-k-preserved c = grind (arith, common_steps)

pub returns-clause-words : goal.returns-clause-words
returns-clause-words c = grind (arith, common_steps)

use Rattle.std.proofs.Common.{arith}
use Rattle.std.proofs.lemmas.Grind.{common_steps}
use Rattle.jack_names.proofs.subroutine.subroutine_meant.Goals as goal

pub returns-clause-means : goal.returns-clause-means
returns-clause-means c = grind (arith, common_steps)

pub returns-clause-name : goal.returns-clause-name
returns-clause-name c = grind (arith, common_steps)

use Rattle.std.proofs.Common.{arith}
use Rattle.std.proofs.lemmas.Grind.{common_steps}
use Rattle.jack_names.proofs.subroutine.begun.Goals as goal

pub returns-in_ok-vec-in-Constructor : goal.returns-in_ok-vec-in-Constructor
returns-in_ok-vec-in-Constructor c = grind (arith, common_steps)

use Rattle.os_functions.proofs.MathRuns.{law}
use Rattle.os_functions.proofs.math_laws.Goals as goal

pub returns : goal.returns
returns c = law

use Rattle.os_functions.proofs.MathRuns.{rows}
use Rattle.os_functions.proofs.math_rows.Goals as goal

pub returns : goal.returns
returns c = rows

use Rattle.jack_compiler.proofs.Examples.{rows}
use Rattle.jack_compiler.proofs.rows_law.Goals as goal

pub returns : goal.returns
returns c = rows

use Rattle.script_parser.proofs.RowsTold.{rows}
use Rattle.script_parser.proofs.laws.rows_law.Goals as goal

pub returns : goal.returns
returns c = rows

use Rattle.tst_runner.proofs.RowsTold.{rows}
use Rattle.tst_runner.proofs.rows_law.Goals as goal

pub returns : goal.returns
returns c = rows

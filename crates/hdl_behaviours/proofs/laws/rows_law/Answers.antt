use Rattle.hdl_behaviours.proofs.Rows.{rows}
use Rattle.hdl_behaviours.proofs.laws.rows_law.Goals as goal

pub returns : goal.returns
returns c = rows

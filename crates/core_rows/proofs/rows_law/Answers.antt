use Rattle.core_rows.proofs.Computed.{row}
use Rattle.core_rows.proofs.rows_law.Goals as goal

pub returns : goal.returns
returns c = row

use Rattle.os_laws.proofs.RunRowsMade.{rows}
use Rattle.os_laws.proofs.meaning.run_rows.Goals as goal

pub returns : goal.returns
returns c = rows

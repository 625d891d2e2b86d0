use Rattle.os_start.proofs.LawsMade.{reached_at, shipped}
use Rattle.os_start.proofs.reached_law.Goals as goal

pub returns : goal.returns
returns c = record { reached = reached_at c.resolved_law.ensures; shipped = shipped }

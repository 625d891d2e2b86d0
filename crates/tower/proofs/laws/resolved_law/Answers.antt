use Rattle.tower.proofs.Limits.{spelled_read}
use Rattle.tower.proofs.Programs.{resolved_by}
use Rattle.tower.proofs.laws.resolved_law.Goals as goal

pub returns : goal.returns
returns c = resolved_by spelled_read

use Rattle.tower.proofs.Limits.{spelled_read}
use Rattle.tower.proofs.laws.read_law.Goals as goal

pub returns : goal.returns
returns c = spelled_read

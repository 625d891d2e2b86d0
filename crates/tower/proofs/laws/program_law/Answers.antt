use Rattle.tower.proofs.Existing.{means_program}
use Rattle.tower.proofs.laws.program_law.Goals as goal

pub returns : goal.returns
returns c = means_program c.existence_law.ensures

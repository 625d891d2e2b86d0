use Rattle.tower.proofs.OneProgram.{one_program}
use Rattle.tower.proofs.laws.one_program_law.Goals as goal

pub returns : goal.returns
returns c = one_program

use Rattle.command_laws.proofs.Answered.{chip_answered}
use Rattle.command_laws.proofs.total.chip_answered_law.Goals as goal

pub returns : goal.returns
returns c = chip_answered

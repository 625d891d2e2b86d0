use Rattle.command_laws.proofs.Answered.{answered}
use Rattle.command_laws.proofs.total.answered_law.Goals as goal

pub returns : goal.returns
returns c = answered c.classes_answered_law.ensures c.file_answered_law.ensures c.vm_answered_law.ensures c.chip_answered_law.ensures c.soak_answered_law.ensures

use Rattle.command_laws.proofs.Answered.{folder_answered}
use Rattle.command_laws.proofs.total.folder_answered_law.Goals as goal

pub returns : goal.returns
returns c = folder_answered c.first_law.ensures c.system_law.ensures c.total_law.ensures

use Rattle.command_laws.proofs.Answered.{file_answered}
use Rattle.command_laws.proofs.total.file_answered_law.Goals as goal

pub returns : goal.returns
returns c = file_answered c.assembly_total_law.ensures c.hack_total_law.ensures c.total_law.ensures c.total_law-2.ensures c.total_law-3.ensures

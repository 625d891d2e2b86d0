use Rattle.command_laws.proofs.Answered.{vm_answered}
use Rattle.command_laws.proofs.total.vm_answered_law.Goals as goal

pub returns : goal.returns
returns c = vm_answered c.size_law.ensures c.total_law.ensures

use Rattle.command_laws.proofs.Exactly.{vm_exact}
use Rattle.command_laws.proofs.exact.vm_exact_law.Goals as goal

pub returns : goal.returns
returns c = vm_exact c.reading_law.ensures

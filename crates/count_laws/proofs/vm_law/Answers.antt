use Rattle.count_laws.proofs.VmFiles.{vm_few}
use Rattle.count_laws.proofs.vm_law.Goals as goal

pub returns : goal.returns
returns c = vm_few

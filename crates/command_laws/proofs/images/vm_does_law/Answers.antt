use Rattle.command_laws.proofs.VmDoes.{vm_does}
use Rattle.command_laws.proofs.images.vm_does_law.Goals as goal

pub returns : goal.returns
returns c = vm_does

use Rattle.vm_debug.proofs.Linked.{linked_are}
use Rattle.vm_debug.proofs.linked_law.Goals as goal

pub returns : goal.returns
returns c = linked_are

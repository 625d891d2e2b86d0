use Rattle.vm_machine.proofs.Histories.{taken_more}
use Rattle.vm_machine.proofs.vm.VmLevel.step.Goals as goal

pub returns-clause-stands : goal.returns-clause-stands
returns-clause-stands c = taken_more _ _ _ _ c.step.ensures.linked c.step.ensures.makes c.step.ensures.moves c.step.ensures.steps

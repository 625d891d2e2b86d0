use Rattle.vm_machine.proofs.Histories.{last_is}
use Rattle.vm_machine.proofs.vm.last_statement.Goals as goal

pub returns-in-Some : goal.returns-in-Some
returns-in-Some c = last_is c.args.code.now c.in-Some.last.now c.in-Some.ensures.value

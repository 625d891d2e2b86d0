use Rattle.nand_cli.proofs.OnVm.{prepared}
use Rattle.nand_cli.proofs.levels.vm.vm_at_start.Goals as goal

pub prepare_vm-requires-clause-built : goal.prepare_vm-requires-clause-built
prepare_vm-requires-clause-built c = (c.args.image, c.requires.image)

pub returns : goal.returns
returns c = prepared c.args.core.now c.prepare_vm.result c.prepare_vm.ensures.program c.prepare_vm.ensures.moves c.prepare_vm.ensures.stands

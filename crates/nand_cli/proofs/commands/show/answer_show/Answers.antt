use Rattle.nand_cli.proofs.commands.show.answer_show.Goals as goal

pub returns-in-Vm-clause-does : goal.returns-in-Vm-clause-does
returns-in-Vm-clause-does g c = rw c.in-Vm.is c.show_vm.ensures.does

pub returns-in-Hdl-clause-does : goal.returns-in-Hdl-clause-does
returns-in-Hdl-clause-does g c = rw c.in-Hdl.is c.show_chip.ensures.does

pub returns-in-Jack-clause-does : goal.returns-in-Jack-clause-does
returns-in-Jack-clause-does g c = rw c.in-Jack.is c.show_class.ensures.does

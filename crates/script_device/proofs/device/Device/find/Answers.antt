use Rattle.std.proofs.Common.{subst}
use Rattle.script_device.specs.Running.{Stands, running_of}
use Rattle.script_device.proofs.Moves.{chip_finds_all, machine_finds}
use Rattle.script_device.proofs.device.Device.find.Goals as goal

pub returns-in-Machine : goal.returns-in-Machine
returns-in-Machine c = λ d s. machine_finds c.in-Machine.field-0 c.args.text.now c.find_in_machine.result (c.find_in_machine.ensures (running_of c.in-Machine.field-0)) d (subst (λ x. Stands x d) c.in-Machine.is s)

pub returns-in-Chip : goal.returns-in-Chip
returns-in-Chip c = λ d s. chip_finds_all c.in-Chip.chip c.args.text.now c.find_in_chip.result (λ calls. c.find_in_chip.ensures calls) d (subst (λ x. Stands x d) c.in-Chip.is s)

use Rattle.std.proofs.Common.{subst}
use Rattle.script_device.specs.Running.{DeviceRuns, Stands}
use Rattle.script_device.proofs.Moves.{chip_set, machine_set}
use Rattle.script_device.proofs.device.Device.set.Goals as goal

pub returns-in-Chip-clause-stands : goal.returns-in-Chip-clause-stands
returns-in-Chip-clause-stands c = λ d s. chip_set c.in-Chip.chip c.set_variable.new.chip c.args.text.now c.args.word c.set_variable.result c.set_variable.ensures.kept c.set_variable.ensures.set d (subst (λ x. Stands x d) c.in-Chip.is s)

pub returns-in-Machine-clause-stands : goal.returns-in-Machine-clause-stands
returns-in-Machine-clause-stands c = λ d s. machine_set c.in-Machine.machine c.set_register.new.machine c.args.text.now c.args.word c.set_register.result c.set_register.ensures.set d (subst (λ x. Stands x d) c.in-Machine.is s)

pub returns-in-Chip-clause-runs : goal.returns-in-Chip-clause-runs
returns-in-Chip-clause-runs c = λ simplify r. c.set_variable.ensures.runs simplify (subst (DeviceRuns simplify) c.in-Chip.is r)

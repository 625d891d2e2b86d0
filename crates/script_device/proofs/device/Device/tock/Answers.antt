use Rattle.std.proofs.Common.{subst}
use Rattle.script_device.specs.Running.{DeviceRuns, Stands}
use Rattle.script_device.proofs.Moves.{chip_tock}
use Rattle.script_device.proofs.device.Device.tock.Goals as goal

pub returns-in-Chip-clause-stands : goal.returns-in-Chip-clause-stands
returns-in-Chip-clause-stands c = λ d s. chip_tock c.in-Chip.chip c.tock.new.self c.tock.ensures.kept c.tock.ensures.driven d (subst (λ x. Stands x d) c.in-Chip.is s)

pub returns-in-Chip-clause-runs : goal.returns-in-Chip-clause-runs
returns-in-Chip-clause-runs c = λ simplify r. c.tock.ensures.runs simplify (subst (DeviceRuns simplify) c.in-Chip.is r)

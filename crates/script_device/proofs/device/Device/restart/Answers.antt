use Rattle.std.proofs.Common.{[], subst, ◌∙◌}
use Rattle.script_device.specs.Running.{DeviceRuns, Stands}
use Rattle.script_device.proofs.Moves.{chip_restart}
use Rattle.script_device.proofs.device.Device.restart.Goals as goal

pub returns-in-Chip-clause-stands : goal.returns-in-Chip-clause-stands
returns-in-Chip-clause-stands c = λ d s. chip_restart c.in-Chip.chip c.eval.new.self (c.eval.ensures.kept ∙ c.reset.ensures.kept) (c.eval.ensures.driven [] c.reset.ensures.driven) d (subst (λ x. Stands x d) c.in-Chip.is s)

pub returns-in-Chip-clause-runs : goal.returns-in-Chip-clause-runs
returns-in-Chip-clause-runs c = λ simplify r. c.eval.ensures.runs simplify (c.reset.ensures.runs simplify (subst (DeviceRuns simplify) c.in-Chip.is r))

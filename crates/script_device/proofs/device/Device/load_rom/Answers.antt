use Rattle.std.proofs.Common.{subst, ◌∙◌}
use Rattle.script_device.specs.Running.{DeviceRuns, Stands}
use Rattle.script_device.proofs.Moves.{chip_loaded}
use Rattle.script_device.proofs.device.Device.load_rom.Goals as goal

pub returns-clause-stands : goal.returns-clause-stands
returns-clause-stands c = λ d s. chip_loaded c.in-Chip.chip c.load_words.new.self c.in-Some.block c.args.image.now c.deref.result.now c.load_words.ensures.kept c.in-Some.ensures (c.deref.ensures.value ∙ c.in_ok-words.ensures.words) c.load_words.ensures.driven d (subst (λ x. Stands x d) c.in-Chip.is s)

pub returns-clause-runs : goal.returns-clause-runs
returns-clause-runs c = λ simplify r. c.load_words.ensures.runs simplify (subst (DeviceRuns simplify) c.in-Chip.is r)

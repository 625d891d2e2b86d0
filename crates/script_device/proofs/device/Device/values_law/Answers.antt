use Rattle.std.proofs.Common.{subst}
use Rattle.script_device.specs.Running.{Stands}
use Rattle.script_device.proofs.Moves.{chip_seen, other_seen}
use Rattle.script_device.proofs.device.Device.values_law.Goals as goal

pub returns-in-Chip : goal.returns-in-Chip
returns-in-Chip c = λ d s. chip_seen c.in-Chip.chip c.values_law.ensures d (subst (λ x. Stands x d) c.in-Chip.is s)

pub returns-in_default : goal.returns-in_default
returns-in_default c = other_seen c.args.self.now c.in_default.not-Chip

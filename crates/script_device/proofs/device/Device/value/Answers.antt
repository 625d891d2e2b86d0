use Rattle.std.proofs.Common.{subst}
use Rattle.script_device.specs.Running.{Stands, probe_source}
use Rattle.script_device.proofs.Moves.{chip_shows, empty_shows, machine_sees, machine_shows}
use Rattle.script_device.proofs.device.Device.value.Goals as goal

pub machine_value-requires : goal.machine_value-requires
machine_value-requires c = machine_sees c.in-Machine.machine c.args.probe.now c.requires.0 (subst (λ x. Stands x c.requires.0) c.in-Machine.is c.requires.1) c.requires.2

pub returns-in-Empty : goal.returns-in-Empty
returns-in-Empty c = λ d told v s. empty_shows (probe_source c.args.probe.now) d told v (subst (λ x. Stands x d) c.in-Empty.is s)

pub returns-in-Chip : goal.returns-in-Chip
returns-in-Chip c = λ d told v s. chip_shows c.in-Chip.chip c.chip_value.result (probe_source c.args.probe.now) c.chip_value.ensures d told v (subst (λ x. Stands x d) c.in-Chip.is s)

pub returns-in-Machine : goal.returns-in-Machine
returns-in-Machine c = λ d told v s. machine_shows c.in-Machine.machine c.machine_value.result (probe_source c.args.probe.now) c.machine_value.ensures d told v (subst (λ x. Stands x d) c.in-Machine.is s)

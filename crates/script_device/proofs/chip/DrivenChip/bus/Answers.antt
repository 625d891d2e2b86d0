use Rattle.std.proofs.Common.{length, ap, ◌∙◌}
use Rattle.script_device.specs.Driven.{bus_value, chip_of}
use Rattle.script_device.specs.Simulated.{IsSeen}
use Rattle.script_device.proofs.Fitting.{means_named}
use Rattle.script_device.proofs.chip.DrivenChip.bus.Goals as goal

pub bus_word-requires-clause-wide : goal.bus_word-requires-clause-wide
bus_word-requires-clause-wide c = c.requires.bus.0

pub bus_word-requires-clause-seen : goal.bus_word-requires-clause-seen
bus_word-requires-clause-seen c =
    let chip = chip_of c.args.self.now in
    means_named (IsSeen c.args.self.now.sim.frame) chip.net chip.directory c.requires.named.0 c.args.nodes.now c.args.self.now.named c.requires.named.1

pub returns : goal.returns
returns c = λ calls told v d sees. c.bus_value.ensures ∙ ap (bus_value (length c.args.nodes.now)) (c.bus_word.ensures calls told v d.stands sees.last sees.values)

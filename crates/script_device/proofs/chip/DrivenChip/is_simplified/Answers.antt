use Rattle.script_device.specs.Directory.{named_of}
use Rattle.script_device.proofs.Runs.{runs_told}
use Rattle.script_device.proofs.chip.DrivenChip.is_simplified.Goals as goal

pub returns : goal.returns
returns c = runs_told (named_of c.args.self.now.directory) c.args.self.now.sim.frame c.is_simplified.result c.is_simplified.ensures.simple c.is_simplified.ensures.own c.args.self.now.wanted

use Rattle.script_device.proofs.Reading.{reads_seen}
use Rattle.script_device.proofs.chip_sim.ChipSim.reads_law.Goals as goal

pub returns : goal.returns
returns c = reads_seen c.args.self.now c.self.inside.sim c.self.inside.whole c.self.view_is c.self.invariant

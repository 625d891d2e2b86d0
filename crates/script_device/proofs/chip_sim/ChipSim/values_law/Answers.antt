use Rattle.script_device.proofs.Placed.{has_values}
use Rattle.script_device.proofs.chip_sim.ChipSim.values_law.Goals as goal

pub returns : goal.returns
returns c = has_values c.args.self.now c.self.inside.sim c.self.inside.whole c.self.view_is c.self.invariant

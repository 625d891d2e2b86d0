use Rattle.std.proofs.Common.{◌<◌, length, sym, subst}
use Rattle.script_device.proofs.Placed.{seen_inside}
use Rattle.script_device.proofs.chip_sim.ChipSim.get.Goals as goal

pub get-requires : goal.get-requires
get-requires c = subst (λ n. n < length c.self.inside.sim.net.nodes) (sym c.place_of.ensures) (seen_inside c.args.self.now c.self.inside.sim c.self.inside.whole c.self.view_is c.self.invariant c.args.node c.requires)

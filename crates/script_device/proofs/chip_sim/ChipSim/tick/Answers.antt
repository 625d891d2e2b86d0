use Rattle.std.proofs.Common.{◌∷◌}
use Rattle.gate_sim.specs.Calls.Call.{Tick}
use Rattle.script_device.proofs.Placed.{told_next}
use Rattle.script_device.proofs.chip_sim.ChipSim.tick.Goals as goal

pub returns-clause-stands : goal.returns-clause-stands
returns-clause-stands c = λ calls was.
    told_next c.args.self.now c.self.inside.sim c.tick.new.self c.self.inside.whole c.self.view_is calls (Tick ∷ calls) (c.tick.ensures.stands _) was

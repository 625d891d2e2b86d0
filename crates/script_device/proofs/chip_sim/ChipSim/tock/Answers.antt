use Rattle.std.proofs.Common.{◌∷◌}
use Rattle.gate_sim.specs.Calls.Call.{Tock}
use Rattle.script_device.proofs.Placed.{told_next}
use Rattle.script_device.proofs.chip_sim.ChipSim.tock.Goals as goal

pub returns-clause-stands : goal.returns-clause-stands
returns-clause-stands c = λ calls was.
    told_next c.args.self.now c.self.inside.sim c.tock.new.self c.self.inside.whole c.self.view_is calls (Tock ∷ calls) (c.tock.ensures.stands _) was

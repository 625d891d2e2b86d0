use Rattle.std.proofs.Common.{◌∷◌}
use Rattle.gate_sim.specs.Calls.Call.{Eval}
use Rattle.script_device.proofs.Placed.{told_next}
use Rattle.script_device.proofs.chip_sim.ChipSim.eval.Goals as goal

pub returns-clause-stands : goal.returns-clause-stands
returns-clause-stands c = λ calls was.
    told_next c.args.self.now c.self.inside.sim c.eval.new.self c.self.inside.whole c.self.view_is calls (Eval ∷ calls) (c.eval.ensures.stands _) was

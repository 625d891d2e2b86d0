use Rattle.std.proofs.Common.{◌≤◌, ◌+◌, ◌∷◌, length}
use Rattle.gate_sim.specs.Calls.Call.{Load}
use Rattle.script_device.proofs.Placed.{room_in, told_next}
use Rattle.script_device.proofs.chip_sim.ChipSim.load_block.Goals as goal

pub load_block-requires : goal.load_block-requires
load_block-requires c = room_in c.args.self.now c.self.inside.sim c.self.inside.whole c.self.view_is c.self.invariant (λ n. c.args.from + length c.args.words.now ≤ n) c.args.block c.requires

pub returns-clause-stands : goal.returns-clause-stands
returns-clause-stands c = λ calls was.
    told_next c.args.self.now c.self.inside.sim c.load_block.new.self c.self.inside.whole c.self.view_is calls (Load c.args.block c.args.from c.args.words.now ∷ calls)
    (c.load_block.ensures.stands _) was

use Rattle.std.proofs.Common.{◌<◌}
use Rattle.script_device.proofs.Placed.{room_in, word_seen}
use Rattle.script_device.proofs.chip_sim.ChipSim.block_word.Goals as goal

pub block_word-requires : goal.block_word-requires
block_word-requires c = room_in c.args.self.now c.self.inside.sim c.self.inside.whole c.self.view_is c.self.invariant (λ n. c.args.a < n) c.args.block c.requires

pub returns : goal.returns
returns c = word_seen c.args.self.now c.self.inside.sim c.self.inside.whole c.self.view_is c.self.invariant c.args.block c.args.a c.block_word.result c.block_word.ensures.told

use Rattle.std.proofs.Common.{◌∙◌}
use Rattle.word16.specs.Words.{has_bit}
use Rattle.gate_sim.proofs.Lanes.{has_and, masked}
use Rattle.gate_sim.proofs.pass.touched_lanes.Goals as goal

pub returns-else-whole : goal.returns-else-whole
returns-else-whole c l less = has_and c.args.changed c.args.mask l ∙ masked (has_bit c.args.changed l) (has_bit c.args.mask l) c.args.whole c.if-whole.false

use Rattle.std.proofs.Common.{ap, ◌∙◌}
use Rattle.word16.specs.Words.{has_bit}
use Rattle.gate_sim.proofs.Lanes.{has_masked}
use Rattle.gate_sim.proofs.pass.masked_change.Goals as goal

pub returns : goal.returns
returns c = has_masked c.slot_at.result.change c.args.lane.at c.args.mask c.requires.lane c.requires.mask ∙ ap (λ s. has_bit s.change c.args.lane.at) c.slot_at.ensures

use Rattle.std.proofs.Common.{below_more}
use Rattle.gate_sim.proofs.takes.is_take.Goals as goal

pub loop-l-preserved : goal.loop-l-preserved
loop-l-preserved c = below_more _ _ c.loop-l.invariant (c.is_take_lane.ensures c.if-not-is_take_lane.false)

use Rattle.std.proofs.Common.{below_more}
use Rattle.gate_sim.proofs.plan.are_lanes.Goals as goal

pub loop-l-preserved : goal.loop-l-preserved
loop-l-preserved c = below_more _ _ c.loop-l.invariant (c.is_lane.ensures c.if-not-is_lane.false)

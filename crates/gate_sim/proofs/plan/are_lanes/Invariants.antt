use Rattle.std.proofs.Common.{ℕ, ◌<◌}
use Rattle.gate_sim.specs.Inner.Plans.{IsLane}
use Rattle.gate_sim.proofs.plan.are_lanes.Given as goal

abbrev pub invariant-loop-l : goal.invariant-loop-l
invariant-loop-l l = (m : ℕ) → m < l.l → IsLane l.nodes l.blocks l.lanes l.places l.q m l.op

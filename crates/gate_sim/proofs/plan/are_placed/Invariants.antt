use Rattle.std.proofs.Common.{ℕ, ◌<◌}
use Rattle.gate_sim.specs.Inner.Plans.{IsPlaced}
use Rattle.gate_sim.proofs.plan.are_placed.Given as goal

abbrev pub invariant-loop-k : goal.invariant-loop-k
invariant-loop-k l = (j : ℕ) → j < l.k → IsPlaced l.n l.lanes l.places j

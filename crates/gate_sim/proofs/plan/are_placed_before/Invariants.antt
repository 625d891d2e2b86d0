use Rattle.std.proofs.Common.{ℕ, ◌<◌, length}
use Rattle.std.specs.Prelude.{slice_index}
use Rattle.gate_sim.specs.Inner.Plans.{IsPlacedBefore}
use Rattle.gate_sim.proofs.plan.are_placed_before.Given as goal

abbrev pub invariant-loop-k : goal.invariant-loop-k
invariant-loop-k l = (i : ℕ) → i < l.k → IsPlacedBefore (length l.places) l.places l.q (slice_index l.nodes i)

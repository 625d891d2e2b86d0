use Rattle.std.proofs.Common.{ℕ, ◌+◌, ◌<◌}
use Rattle.std.specs.Prelude.{slice_index}
use Rattle.gate_sim.specs.Inner.Plans.{StandsAt}
use Rattle.gate_sim.proofs.plan.are_side_by_side.Given as goal

abbrev pub invariant-loop-i : goal.invariant-loop-i
invariant-loop-i l = (j : ℕ) → j < l.i → StandsAt l.places (slice_index l.nodes j) l.first.slot (l.first.at + j)

use Rattle.std.proofs.Common.{◌≡◌, ℕ, ◌<◌, Some}
use Rattle.std.specs.Prelude.{slice_get}
use Rattle.hdl_loops.specs.Inner.Hops.{bit}
use Rattle.hdl_loops.specs.Inner.Ranked.{rank_at}
use Rattle.hdl_loops.specs.declared.joint.Joint.{Joint}
use Rattle.hdl_loops.proofs.ranks.Ranks.are_above.Given as goal

abbrev pub invariant-loop-joint : goal.invariant-loop-joint
invariant-loop-joint l = (q : ℕ) → q < l.joint-index → (j : Joint) → slice_get l.joints q ≡ Some j → (a : ℕ) × (rank_at l.self (bit j.net) ≡ Some a) × (l.rank < a)

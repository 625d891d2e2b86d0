use Rattle.std.proofs.Common.{◌≡◌, ℕ, ◌<◌, Some}
use Rattle.std.specs.Prelude.{slice_get}
use Rattle.hdl_plans.specs.Ways.{Way}
use Rattle.hdl_loops.specs.Inner.Hops.{bit, HasHop}
use Rattle.hdl_loops.specs.Inner.Bundles.{hops_in}
use Rattle.hdl_loops.specs.declared.joint.Joint.{Joint}
use Rattle.hdl_loops.proofs.circle.circle_by.Given as goal

abbrev pub invariant-loop-enter : goal.invariant-loop-enter
invariant-loop-enter l = (j : ℕ) → j < l.enter-index → (e : Joint) → slice_get l.enters j ≡ Some e → Way (HasHop (hops_in l.graph)) (bit e.net) (bit e.net) → ⊥

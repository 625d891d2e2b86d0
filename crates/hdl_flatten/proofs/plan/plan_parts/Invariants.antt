use Rattle.std.proofs.Common.{◌≡◌, ℕ, ◌<◌, ◌++◌, List, length}
use Rattle.std.specs.Prelude.{slice_index_or}
use Rattle.hdl_flatten.specs.declared.plan.PartPlan.{PartPlan}
use Rattle.hdl_flatten.specs.Inner.Sizes.{IsSmall}
use Rattle.hdl_flatten.specs.Inner.Wired.{wires_of}
use Rattle.hdl_flatten.specs.Inner.Plans.{ArePartPlans, plans_at, places}
use Rattle.hdl_flatten.proofs.plan.plan_parts.Given as goal

abbrev pub invariant-loop-part : goal.invariant-loop-part
invariant-loop-part l = record {
  parts : (tail : List PartPlan) → ArePartPlans (wires_of l.wires) l.size l.rest (plans_at l.plans l.behind) tail → ArePartPlans (wires_of l.wires) l.initial.size l.parts (plans_at l.plans l.rs) (l.planned.items ++ tail);
  places : places l.planned.items ++ l.behind ≡ l.rs;
  small : IsSmall l.size;
  within : (k d : ℕ) → k < length l.behind → slice_index_or l.behind k d < length l.plans;
  long : length l.behind ≡ length l.rest;
}

abbrev pub decreases-loop-part : goal.decreases-loop-part
decreases-loop-part l = length l.rest

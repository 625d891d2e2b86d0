use Rattle.std.proofs.Common.{◌≡◌, ℕ, ◌<◌, length}
use Rattle.std.specs.Prelude.{slice_index_or}
use Rattle.hdl_flatten.specs.Inner.Sizes.{IsSmall}
use Rattle.hdl_flatten.specs.Inner.Plans.{all_sized, plans_at}
use Rattle.hdl_flatten.proofs.plan.size_with.Given as goal

abbrev pub invariant-loop-place : goal.invariant-loop-place
invariant-loop-place l = record {
  sum : all_sized l.size (plans_at l.plans l.rest) ≡ all_sized l.initial.size (plans_at l.plans l.rs);
  small : IsSmall l.size;
  within : (k d : ℕ) → k < length l.rest → slice_index_or l.rest k d < length l.plans;
}

abbrev pub decreases-loop-place : goal.decreases-loop-place
decreases-loop-place l = length l.rest

use Rattle.std.proofs.Common.{◌≡◌, ℕ, ◌<◌, ◌++◌, List, length}
use Rattle.std.specs.Prelude.{slice_index_or}
use Rattle.hdl_flatten.specs.Inner.Sizes.{IsSmall}
use Rattle.hdl_flatten.specs.Inner.Wired.{wires_of, found_bit}
use Rattle.hdl_flatten.specs.Inner.Plans.{parts_driven, plans_at}
use Rattle.hdl_flatten.proofs.plan.wire_parts.Given as goal

abbrev pub invariant-loop-part : goal.invariant-loop-part
invariant-loop-part l = record {
  wires : (name : List ℕ) (bit : ℕ) → found_bit name bit (wires_of l.wires ++ parts_driven l.size l.rest (plans_at l.plans l.behind)) ≡ found_bit name bit (wires_of l.fn.wires ++ parts_driven l.initial.size l.parts (plans_at l.plans l.rs));
  small : IsSmall l.size;
  within : (k d : ℕ) → k < length l.behind → slice_index_or l.behind k d < length l.plans;
}

abbrev pub decreases-loop-part : goal.decreases-loop-part
decreases-loop-part l = length l.rest

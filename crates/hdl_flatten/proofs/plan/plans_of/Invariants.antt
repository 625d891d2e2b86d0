use Rattle.std.proofs.Common.{◌≡◌, length}
use Rattle.hdl_check.specs.Inner.Progress.{chips_of}
use Rattle.hdl_flatten.specs.Inner.Plans.{ArePlans, FollowNest}
use Rattle.hdl_flatten.proofs.plan.plans_of.Given as goal

abbrev pub invariant-loop-nested : goal.invariant-loop-nested
invariant-loop-nested l = record {
  long : length l.plans.items ≡ l.nested-index;
  planned : ArePlans (chips_of l.catalog) l.plans.items;
  follow : FollowNest l.nest l.plans.items;
}

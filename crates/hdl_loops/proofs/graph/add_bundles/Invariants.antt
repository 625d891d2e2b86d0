use Rattle.std.proofs.Common.{ℕ, ◌<◌}
use Rattle.hdl_check.specs.Whole.{chips_in}
use Rattle.hdl_loops.specs.Inner.Bundles.{hops_in}
use Rattle.hdl_loops.specs.Inner.Ties.{ties_of}
use Rattle.hdl_loops.specs.Inner.Knowing.{leaps_between, BundlesLast, AddsOnly}
use Rattle.hdl_loops.proofs.graph.add_bundles.Given as goal

abbrev pub invariant-loop-k : goal.invariant-loop-k
invariant-loop-k l = record {
  right : AddsOnly (hops_in l.initial.graph.items) (hops_in l.graph.items) (leaps_between (chips_in l.entries l.memories) l.known l.chip (ties_of l.sides.enters.items) (ties_of l.sides.leaves.items));
  there : (k : ℕ) → k < l.k → BundlesLast (chips_in l.entries l.memories) l.known l.chip l.sides (hops_in l.graph.items) k;
}

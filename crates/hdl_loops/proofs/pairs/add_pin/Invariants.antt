use Rattle.std.proofs.Common.{ℕ, ◌<◌, []}
use Rattle.hdl_plans.specs.Loops.{bit_at}
use Rattle.hdl_loops.specs.Inner.Bundles.{hops_in}
use Rattle.hdl_loops.specs.Inner.Pairs.{AreWays, KeepsPairs, BitLeads}
use Rattle.hdl_loops.proofs.pairs.add_pin.Given as goal

abbrev pub invariant-loop-b : goal.invariant-loop-b
invariant-loop-b l = record {
  right : AreWays (hops_in l.graph) l.pairs.keys;
  kept : KeepsPairs l.initial.pairs.keys l.pairs.keys;
  there : (b : ℕ) → b < l.b → BitLeads (hops_in l.graph) l.ends l.pairs.keys (bit_at [] l.pin.name b);
}

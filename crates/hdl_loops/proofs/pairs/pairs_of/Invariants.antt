use Rattle.std.proofs.Common.{◌≡◌, ℕ, ◌<◌, Some}
use Rattle.std.specs.Prelude.{slice_get}
use Rattle.hdl_tree.specs.declared.tree.Pin.{Pin}
use Rattle.hdl_loops.specs.Inner.Bundles.{hops_in}
use Rattle.hdl_loops.specs.Inner.Pairs.{AreWays, PinLeads}
use Rattle.hdl_loops.proofs.pairs.pairs_of.Given as goal

abbrev pub invariant-loop-pin : goal.invariant-loop-pin
invariant-loop-pin l = record {
  right : AreWays (hops_in l.graph) l.pairs.keys;
  there : (j : ℕ) → j < l.pin-index → (pin : Pin) → slice_get l.first j ≡ Some pin → PinLeads (hops_in l.graph) l.ends l.pairs.keys pin;
}

use Rattle.std.proofs.Common.{◌≡◌, ℕ, ◌<◌, Some, true}
use Rattle.std.specs.Prelude.{slice_get}
use Rattle.hdl_loops.specs.Inner.Bundles.{hops_in}
use Rattle.hdl_loops.specs.Inner.Hops.{bit}
use Rattle.hdl_loops.specs.Inner.Pairs.{has_pair, has_name, AreWays, KeepsPairs}
use Rattle.hdl_loops.specs.declared.tree.Node.{Node}
use Rattle.hdl_loops.proofs.pairs.add_bit.Given as goal

abbrev pub invariant-loop-node : goal.invariant-loop-node
invariant-loop-node l = record {
  right : AreWays (hops_in l.graph) l.pairs.keys;
  kept : KeepsPairs l.initial.pairs.keys l.pairs.keys;
  there : (j : ℕ) → j < l.node-index → (node : Node) → slice_get l.nodes j ≡ Some node → has_name l.ends node.hop.to.name.now ≡ true → has_pair l.pairs.keys (bit l.from) (bit node.hop.to) ≡ true;
}

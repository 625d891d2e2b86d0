use Rattle.std.proofs.Common.{◌≡◌, ℕ, ◌-◌, ◌<◌, Some, length}
use Rattle.std.specs.Prelude.{slice_get}
use Rattle.hdl_loops.specs.Inner.Bundles.{hops_in}
use Rattle.hdl_loops.specs.Inner.Hops.{bit}
use Rattle.hdl_loops.specs.Inner.Trees.{IsTree, IsLeft, ArePassed}
use Rattle.hdl_loops.specs.declared.tree.Node.{Node}
use Rattle.hdl_loops.proofs.tree.Tree.grow.Given as goal

abbrev pub invariant-loop-k : goal.invariant-loop-k
invariant-loop-k l = record {
  right : IsTree (hops_in l.graph) l.self;
  passed : ArePassed l.graph l.self;
  same : bit l.self.root ≡ bit l.initial.self.root;
  root : IsLeft (hops_in l.graph) l.self (bit l.self.root);
  left : (j : ℕ) (node : Node) → j < l.k → slice_get l.self.nodes.items j ≡ Some node → IsLeft (hops_in l.graph) l.self (bit node.hop.to);
}

abbrev pub decreases-loop-k : goal.decreases-loop-k
decreases-loop-k l = length (hops_in l.graph) - l.k

use Rattle.std.proofs.Common.{◌≡◌, Some, reverse}
use Rattle.std.specs.Prelude.{slice_get}
use Rattle.hdl_loops.specs.Inner.Bundles.{hops_in}
use Rattle.hdl_loops.specs.Inner.Hops.{bit}
use Rattle.hdl_loops.specs.Inner.Trees.{IsBack, steps_left}
use Rattle.hdl_loops.specs.declared.tree.Node.{Node}
use Rattle.hdl_loops.proofs.tree.Tree.back.Given as goal

abbrev pub invariant-loop-at : goal.invariant-loop-at
invariant-loop-at l = (node : Node) → slice_get l.self.nodes.items l.last ≡ Some node → IsBack (hops_in l.graph) l.self l.at (reverse l.way.items) (bit node.hop.to)

abbrev pub decreases-loop-at : goal.decreases-loop-at
decreases-loop-at l = steps_left l.at

use Rattle.hdl_loops.specs.Inner.Bundles.{hops_in}
use Rattle.hdl_loops.proofs.tree.Tree.of.Goals as goal

pub grow-requires-clause-right : goal.grow-requires-clause-right
grow-requires-clause-right c = c.new-tree.ensures.right (hops_in c.args.graph.now)

use Rattle.std.proofs.Common.{refl}
use Rattle.hdl_loops.specs.Inner.Bundles.{hops_in}
use Rattle.hdl_loops.proofs.Dooring.{repassed}
use Rattle.hdl_loops.proofs.tree.Tree.go_in.Goals as goal

pub returns-in-Ok-clause-right : goal.returns-in-Ok-clause-right
returns-in-Ok-clause-right c = repassed (hops_in c.args.graph.now) c.pass.new.self _ refl c.in_ok-pass.ensures.right

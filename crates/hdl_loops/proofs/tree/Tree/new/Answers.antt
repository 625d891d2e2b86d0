use Rattle.hdl_loops.specs.declared.tree.Tree.{Tree}
use Rattle.hdl_loops.proofs.Growing.{new_tree, none_passed}
use Rattle.hdl_loops.proofs.tree.Tree.new.Goals as goal

pub returns-clause-right : goal.returns-clause-right
returns-clause-right c = new_tree _ c.new.ensures.empty c.new-2.ensures.items

pub returns-clause-passed : goal.returns-clause-passed
returns-clause-passed c = λ graph.
    let t : Tree = record { root = c.args.root; places = c.new.result; nodes = c.new-2.result; passed = c.new-3.result } in
    none_passed graph t c.new-3.ensures.empty

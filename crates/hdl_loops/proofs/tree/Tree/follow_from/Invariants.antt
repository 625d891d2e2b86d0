use Rattle.hdl_loops.specs.Inner.Hops.{bit}
use Rattle.hdl_loops.specs.Inner.Bundles.{hops_in, AreDoors}
use Rattle.hdl_loops.specs.Inner.Leaving.{LeavesIn}
use Rattle.hdl_loops.specs.Inner.Trees.{IsTree, ArePassed, IsReached, KeepsMarks, LeftBefore, steps_left}
use Rattle.hdl_loops.proofs.Dooring.{LeadsFrom}
use Rattle.hdl_loops.proofs.Linking.{PastAre}
use Rattle.hdl_loops.proofs.tree.Tree.follow_from.Given as goal

abbrev pub invariant-loop-at : goal.invariant-loop-at
invariant-loop-at l = (are : AreDoors l.graph l.doors) → record {
  right : IsTree (hops_in l.graph) l.self;
  passed : ArePassed l.graph l.self;
  kept : KeepsMarks l.initial.self l.self;
  leaves : LeavesIn are.right.bits l.at (bit l.from);
  reached : IsReached l.self (bit l.from);
  before : LeftBefore (hops_in l.graph) l.self (bit l.from);
  left : PastAre are.right.bits (LeadsFrom l.graph l.doors l.self) (bit l.from) l.at;
}

abbrev pub decreases-loop-at : goal.decreases-loop-at
decreases-loop-at l = steps_left l.at

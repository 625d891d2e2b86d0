use Rattle.hdl_check.specs.Whole.{chips_in}
use Rattle.hdl_loops.specs.Inner.Hops.{bit}
use Rattle.hdl_loops.specs.Inner.Knowing.{outputs_of, Leads}
use Rattle.hdl_loops.specs.Inner.Leaving.{LeavesIn}
use Rattle.hdl_loops.specs.Inner.Ties.{In}
use Rattle.hdl_loops.specs.Inner.Trees.{steps_left}
use Rattle.hdl_loops.specs.declared.joint.Joint.{Joint}
use Rattle.hdl_loops.proofs.Linking.{PastAre}
use Rattle.hdl_loops.proofs.Pinning.{IsPaired}
use Rattle.hdl_loops.proofs.graph.enters_by_pairs.Given as goal

abbrev pub invariant-loop-at : goal.invariant-loop-at
invariant-loop-at l = record {
  leaves : LeavesIn (outputs_of l.inside) l.at (bit l.leave.pin);
  only : (a : Joint) → In a l.enters.items → In a l.sides.enters.items × Leads (chips_in l.entries l.memories) l.known l.chip a l.leave;
  past : PastAre (outputs_of l.inside) (IsPaired (chips_in l.entries l.memories) l.known l.chip l.inside l.sides.enters.items l.leave l.enters.items) (bit l.leave.pin) l.at;
}

abbrev pub decreases-loop-at : goal.decreases-loop-at
decreases-loop-at l = steps_left l.at

use Rattle.std.proofs.Common.{◌≡◌}
use Rattle.hdl_loops.specs.declared.joint.Joint.{Joint}
use Rattle.hdl_loops.specs.Inner.Hops.{bit}
use Rattle.hdl_loops.specs.Inner.Leaving.{LeavesIn}
use Rattle.hdl_loops.specs.Inner.Ties.{In, pins_of}
use Rattle.hdl_loops.specs.Inner.Trees.{steps_left}
use Rattle.hdl_loops.proofs.Linking.{PastAre}
use Rattle.hdl_loops.proofs.Pinning.{IsFound}
use Rattle.hdl_loops.proofs.pins.joints_at.Given as goal

abbrev pub invariant-loop-at : goal.invariant-loop-at
invariant-loop-at l = record {
  leaves : LeavesIn (pins_of l.joints) l.at (bit l.pin);
  only : (joint : Joint) → In joint l.found.items → In joint l.joints × (bit joint.pin ≡ bit l.pin);
  past : PastAre (pins_of l.joints) (IsFound l.joints l.found.items) (bit l.pin) l.at;
}

abbrev pub decreases-loop-at : goal.decreases-loop-at
decreases-loop-at l = steps_left l.at

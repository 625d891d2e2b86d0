use Rattle.std.proofs.Common.{get_or, true, subst, arith}
use Rattle.hdl_loops.specs.Inner.Ties.{In}
use Rattle.hdl_loops.proofs.Lists.{get_in, get_there}
use Rattle.hdl_loops.proofs.Pinning.{on_only, on_all, side_all}
use Rattle.hdl_loops.proofs.pins.enters_of.Goals as goal

pub loop-joint-init : goal.loop-joint-init
loop-joint-init c = record { only = λ j h. absurd (subst (In j) c.new-found.ensures.items h); all = λ q lt. absurd (omega (arith, lt)) }

pub loop-joint-preserved : goal.loop-joint-preserved
loop-joint-preserved c =
    let joints = c.args.joints.now in
    let i = c.loop-joint.joint-index in
    let old = c.loop-joint.found.items in
    let new = c.add_if.new.found.items in
    let item = get_or joints i _ in
    let at = get_there joints i _ c.loop-joint-test.true in
    record {
      only = on_only joints old new true item (item.input) c.in_ok-add_if.ensures (get_in joints i item at) (λ e. e) c.loop-joint.invariant.only;
      all = on_all joints old new true item (item.input) c.in_ok-add_if.ensures i at (λ e. e) c.loop-joint.invariant.all;
    }

pub returns : goal.returns
returns c = side_all c.args.joints.now c.loop-joint.found.items true c.loop-joint.joint-index (omega arith) c.loop-joint.invariant.only c.loop-joint.invariant.all

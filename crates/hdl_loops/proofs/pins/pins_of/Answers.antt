use Rattle.std.proofs.Common.{get_or, arith}
use Rattle.hdl_loops.specs.declared.joint.Joint.{Joint}
use Rattle.hdl_loops.proofs.Linking.{keys_next, keys_all}
use Rattle.hdl_loops.proofs.Lists.{get_there}
use Rattle.hdl_loops.proofs.pins.pins_of.Goals as goal

pub loop-joint-preserved : goal.loop-joint-preserved
loop-joint-preserved c =
    let joints = c.args.joints.now in
    let i = c.loop-joint.joint-index in
    keys_next (λ (j : Joint). j.pin) joints i (get_or joints i _) c.loop-joint.pins c.add.new.self (get_there joints i _ c.loop-joint-test.true) c.loop-joint.invariant c.in_ok-add.ensures

pub returns : goal.returns
returns c = keys_all (λ (j : Joint). j.pin) c.args.joints.now c.loop-joint.joint-index c.loop-joint.pins (omega arith) c.loop-joint.invariant

use Rattle.std.proofs.Common.{map, take}
use Rattle.hdl_loops.specs.Inner.Leaving.{IsLinked}
use Rattle.hdl_loops.specs.declared.joint.Joint.{Joint}
use Rattle.hdl_loops.proofs.pins.pins_of.Given as goal

abbrev pub invariant-loop-joint : goal.invariant-loop-joint
invariant-loop-joint l = IsLinked (map (λ (j : Joint). j.pin) (take l.joint-index l.joints)) l.pins

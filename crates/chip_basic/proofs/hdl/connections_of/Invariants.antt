use Rattle.std.proofs.Common.{◌≡◌, take}
use Rattle.chip_basic.proofs.hdl.connections_of.Given as goal

abbrev pub invariant-loop-joint : goal.invariant-loop-joint
invariant-loop-joint l = l.connections.items ≡ take l.joint-index l.joints

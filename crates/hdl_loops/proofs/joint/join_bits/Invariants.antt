use Rattle.std.proofs.Common.{◌≡◌, ◌++◌}
use Rattle.hdl_loops.specs.Inner.Ties.{ties_of, ties_below}
use Rattle.hdl_loops.proofs.joint.join_bits.Given as goal

abbrev pub invariant-loop-k : goal.invariant-loop-k
invariant-loop-k l = ties_of l.joints.items ≡ ties_of l.initial.joints.items ++ ties_below l.pin l.net l.input l.k

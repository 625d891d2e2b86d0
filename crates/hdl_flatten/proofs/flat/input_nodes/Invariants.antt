use Rattle.std.proofs.Common.{◌≡◌}
use Rattle.hdl_flatten.specs.Inner.Putting.{from_two}
use Rattle.hdl_flatten.proofs.flat.input_nodes.Given as goal

abbrev pub invariant-loop-k : goal.invariant-loop-k
invariant-loop-k l = l.inputs.items ≡ from_two l.k

use Rattle.std.proofs.Common.{◌≡◌, ◌++◌}
use Rattle.hdl_flatten.specs.Inner.Putting.{pins}
use Rattle.hdl_flatten.proofs.flat.put_pins.Given as goal

abbrev pub invariant-loop-k : goal.invariant-loop-k
invariant-loop-k l = l.nodes.items ≡ l.fn.nodes.items ++ pins l.k

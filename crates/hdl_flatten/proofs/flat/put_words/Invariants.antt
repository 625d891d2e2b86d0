use Rattle.std.proofs.Common.{◌≡◌, ◌++◌}
use Rattle.hdl_flatten.specs.Inner.Putting.{words}
use Rattle.hdl_flatten.proofs.flat.put_words.Given as goal

abbrev pub invariant-loop-bit : goal.invariant-loop-bit
invariant-loop-bit l = l.nodes.items ≡ l.fn.nodes.items ++ words l.block l.bit

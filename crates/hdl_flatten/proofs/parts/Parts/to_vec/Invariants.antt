use Rattle.std.proofs.Common.{◌≡◌, take}
use Rattle.hdl_flatten.proofs.parts.Parts.to_vec.Given as goal

abbrev pub invariant-loop-k : goal.invariant-loop-k
invariant-loop-k l = l.parts.items ≡ take l.k l.self

use Rattle.std.proofs.Common.{◌≡◌, false}
use Rattle.hdl_check.specs.Tables.{bits_of}
use Rattle.hdl_check.specs.Inner.Marked.{some_marked}
use Rattle.hdl_check.proofs.marks.Marks.has_some.Given as goal

abbrev pub invariant-loop-k : goal.invariant-loop-k
invariant-loop-k l = some_marked l.self (bits_of l.name l.first l.k) ≡ false

use Rattle.hdl_check.specs.Tables.{bits_of}
use Rattle.hdl_check.specs.Inner.Marked.{MarksMore}
use Rattle.hdl_check.proofs.marks.Marks.mark_all.Given as goal

abbrev pub invariant-loop-k : goal.invariant-loop-k
invariant-loop-k l = MarksMore l.fn.self l.self (bits_of l.name l.first l.k)

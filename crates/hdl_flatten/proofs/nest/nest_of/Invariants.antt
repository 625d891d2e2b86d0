use Rattle.std.proofs.Common.{length}
use Rattle.hdl_check.specs.Inner.Progress.{chips_of}
use Rattle.hdl_flatten.specs.Inner.Visits.{IsStack, work_left}
use Rattle.hdl_flatten.proofs.nest.nest_of.Given as goal

abbrev pub invariant-visits : goal.invariant-visits
invariant-visits l = IsStack (chips_of l.catalog) l.k l.search l.stack.items

abbrev pub decreases-visits : goal.decreases-visits
decreases-visits l = work_left l.search (length l.stack.items)

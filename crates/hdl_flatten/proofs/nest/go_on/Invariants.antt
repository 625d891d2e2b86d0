use Rattle.std.proofs.Common.{length}
use Rattle.hdl_check.specs.Inner.Progress.{chips_of}
use Rattle.hdl_flatten.specs.Inner.Visits.{IsVisit, HasSameChip}
use Rattle.hdl_flatten.proofs.nest.go_on.Given as goal

abbrev pub invariant-parts : goal.invariant-parts
invariant-parts l = record {
  right : IsVisit (chips_of l.catalog) l.search.chips.items l.visit;
  same : HasSameChip l.fn.visit l.visit;
}

abbrev pub decreases-parts : goal.decreases-parts
decreases-parts l = length l.visit.rest.now

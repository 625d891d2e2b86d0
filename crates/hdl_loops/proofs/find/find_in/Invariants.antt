use Rattle.hdl_check.specs.Whole.{chips_in}
use Rattle.hdl_loops.specs.Inner.Knowing.{AreKnown}
use Rattle.hdl_loops.specs.Inner.Stacked.{IsStack, weight}
use Rattle.hdl_loops.proofs.find.find_in.Given as goal

abbrev pub invariant-loop-alloc : goal.invariant-loop-alloc
invariant-loop-alloc l = record {
  right : AreKnown (chips_in l.entries l.memories) l.known;
  stack : IsStack (chips_in l.entries l.memories) l.known l.k l.stack.items;
}

abbrev pub decreases-loop-alloc : goal.decreases-loop-alloc
decreases-loop-alloc l = weight (chips_in l.entries l.memories) l.stack.items

use Rattle.hdl_check.specs.Whole.{chips_in}
use Rattle.hdl_loops.specs.Inner.Bundles.{hops_in}
use Rattle.hdl_loops.specs.Inner.Knowing.{part_leaps}
use Rattle.hdl_loops.proofs.Pinning.{AreFirst}
use Rattle.hdl_loops.proofs.graph.graph_of.Given as goal

abbrev pub invariant-loop-part : goal.invariant-loop-part
invariant-loop-part l = AreFirst (part_leaps (chips_in l.entries l.memories) l.known) l.parts l.part-index (hops_in l.graph.items)

use Rattle.std.proofs.Common.{◌≡◌, ◌++◌, drop, map, take}
use Rattle.hdl_loops.specs.Inner.Bundles.{turn}
use Rattle.hdl_loops.proofs.known.turn_all.Given as goal

abbrev pub invariant-loop-k : goal.invariant-loop-k
invariant-loop-k l = l.graph.items ≡ map turn (take l.k l.fn.graph.items) ++ drop l.k l.fn.graph.items

use Rattle.std.proofs.Common.{map, take}
use Rattle.hdl_loops.specs.Inner.Leaving.{IsLinked}
use Rattle.hdl_loops.specs.Inner.Knowing.{through_pair}
use Rattle.hdl_loops.specs.declared.pairs.Pair.{Pair}
use Rattle.hdl_loops.proofs.graph.outputs_of.Given as goal

abbrev pub invariant-loop-found : goal.invariant-loop-found
invariant-loop-found l = IsLinked (map (λ (p : Pair). (through_pair l.inside.turned p).to) (take l.found-index l.pairs)) l.outputs

use Rattle.std.proofs.Common.{◌≡◌, length}
use Rattle.hdl_loops.specs.Inner.Knowing.{KnowNothing}
use Rattle.hdl_loops.proofs.find.nothing_known.Given as goal

abbrev pub invariant-loop-k : goal.invariant-loop-k
invariant-loop-k l = record { long : length l.known.items ≡ l.k; none : KnowNothing l.known.items }

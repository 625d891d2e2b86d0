use Rattle.hack_cpu.specs.Libraries.{IsLibrary}
use Rattle.gate_tests.proofs.refusals.chained.Given as goal

abbrev pub invariant-loop-k : goal.invariant-loop-k
invariant-loop-k l = IsLibrary l.library.entries

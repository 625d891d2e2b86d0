use Rattle.hack_cpu.specs.Libraries.{IsLibrary}
use Rattle.gate_tests.proofs.chips.library_with.Given as goal

abbrev pub invariant-loop-text : goal.invariant-loop-text
invariant-loop-text l = IsLibrary l.library.entries

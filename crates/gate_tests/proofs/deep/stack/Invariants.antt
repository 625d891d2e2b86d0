use Rattle.hdl_names.specs.Names.{IsIndexed}
use Rattle.hack_cpu.specs.Libraries.{IsLibrary}
use Rattle.gate_tests.proofs.deep.stack.Given as goal

abbrev pub invariant-loop-k : goal.invariant-loop-k
invariant-loop-k l = record { library : IsLibrary l.chips.entries.items; indexed : IsIndexed l.chips }

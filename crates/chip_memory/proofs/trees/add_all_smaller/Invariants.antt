use Rattle.std.proofs.Common.{◌≡◌, ◌++◌}
use Rattle.chip_basic.specs.Hdl.{each}
use Rattle.chip_memory.specs.Trees.{smaller}
use Rattle.chip_memory.proofs.trees.add_all_smaller.Given as goal

abbrev pub invariant-loop-number : goal.invariant-loop-number
invariant-loop-number l = l.parts.items ≡ l.initial.parts.items ++ each l.number (smaller l.name l.bits)

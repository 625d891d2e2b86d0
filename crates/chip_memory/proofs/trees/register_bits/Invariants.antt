use Rattle.std.proofs.Common.{◌≡◌}
use Rattle.chip_basic.specs.Hdl.{each}
use Rattle.chip_memory.specs.Trees.{register_bit}
use Rattle.chip_memory.proofs.trees.register_bits.Given as goal

abbrev pub invariant-loop-bit : goal.invariant-loop-bit
invariant-loop-bit l = l.parts.items ≡ each l.bit register_bit

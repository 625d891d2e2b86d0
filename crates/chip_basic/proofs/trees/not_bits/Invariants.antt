use Rattle.std.proofs.Common.{◌≡◌}
use Rattle.chip_basic.specs.Hdl.{each}
use Rattle.chip_basic.specs.Trees.{not_bit}
use Rattle.chip_basic.proofs.trees.not_bits.Given as goal

abbrev pub invariant-loop-bit : goal.invariant-loop-bit
invariant-loop-bit l = l.parts.items ≡ each l.bit not_bit

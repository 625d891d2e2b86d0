use Rattle.std.proofs.Common.{◌≡◌, suc, ◌++◌}
use Rattle.chip_basic.specs.Hdl.{each}
use Rattle.chip_alu.specs.Trees.{add_bit}
use Rattle.chip_alu.proofs.trees.add_full_adders.Given as goal

abbrev pub invariant-loop-below : goal.invariant-loop-below
invariant-loop-below l = l.parts.items ≡ l.initial.parts.items ++ each l.below (λ i. add_bit (suc i))

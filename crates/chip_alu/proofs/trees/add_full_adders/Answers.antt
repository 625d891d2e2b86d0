use Rattle.std.proofs.Common.{◌∙◌}
use Rattle.chip_alu.specs.Trees.{add_bit}
use Rattle.chip_alu.proofs.Rows.{next_behind}
use Rattle.chip_alu.proofs.trees.add_full_adders.Goals as goal

pub loop-below-preserved : goal.loop-below-preserved
loop-below-preserved c = c.in_ok-add_full_adder.ensures ∙ next_behind _ _ add_bit c.loop-below.below c.loop-below.invariant

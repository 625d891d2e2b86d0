use Rattle.std.proofs.Common.{◌∙◌}
use Rattle.chip_memory.specs.Trees.{smaller}
use Rattle.chip_alu.proofs.Rows.{one_more_behind}
use Rattle.chip_memory.proofs.trees.add_all_smaller.Goals as goal

pub loop-number-preserved : goal.loop-number-preserved
loop-number-preserved c = c.in_ok-add_smaller.ensures ∙ one_more_behind _ _ (smaller c.args.name.now c.args.bits) c.loop-number.number c.loop-number.invariant

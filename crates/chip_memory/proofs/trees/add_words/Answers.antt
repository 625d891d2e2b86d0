use Rattle.std.proofs.Common.{◌∙◌}
use Rattle.chip_memory.specs.Trees.{word_part}
use Rattle.chip_alu.proofs.Rows.{one_more_behind}
use Rattle.chip_memory.proofs.trees.add_words.Goals as goal

pub loop-number-preserved : goal.loop-number-preserved
loop-number-preserved c = c.in_ok-add_word.ensures ∙ one_more_behind _ _ word_part c.loop-number.number c.loop-number.invariant

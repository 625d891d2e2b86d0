use Rattle.std.proofs.Common.{refl}
use Rattle.chip_alu.specs.Trees.{half_adder_tree, full_adder_tree, add16_tree, inc16_tree, alu_tree, shift_tree}
use Rattle.chip_alu.proofs.laws.alu_texts_law.Goals as goal

pub returns : goal.returns
unfolding half_adder_tree full_adder_tree add16_tree inc16_tree alu_tree shift_tree
returns c = refl

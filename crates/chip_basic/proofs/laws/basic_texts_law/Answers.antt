use Rattle.std.proofs.Common.{refl}
use Rattle.chip_basic.specs.Trees.{nand_tree, not_tree, and_tree, or_tree, xor_tree, mux_tree, dmux_tree, not16_tree, and16_tree, or16_tree, mux16_tree, or8way_tree, mux4way16_tree, mux8way16_tree, dmux4way_tree, dmux8way_tree}
use Rattle.chip_basic.proofs.laws.basic_texts_law.Goals as goal

pub returns : goal.returns
unfolding nand_tree not_tree and_tree or_tree xor_tree mux_tree dmux_tree not16_tree and16_tree or16_tree mux16_tree or8way_tree mux4way16_tree mux8way16_tree dmux4way_tree dmux8way_tree
returns c = refl

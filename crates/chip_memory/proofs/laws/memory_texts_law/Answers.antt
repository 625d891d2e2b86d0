use Rattle.std.proofs.Common.{refl}
use Rattle.chip_memory.specs.Trees.{dff_tree, bit_tree, register_tree, a_register_tree, d_register_tree, pc_tree, ram8_tree, ram64_tree, ram512_tree, ram4k_tree, ram16k_tree, screen_tree}
use Rattle.chip_memory.proofs.laws.memory_texts_law.Goals as goal

pub returns : goal.returns
unfolding dff_tree bit_tree register_tree a_register_tree d_register_tree pc_tree ram8_tree ram64_tree ram512_tree ram4k_tree ram16k_tree screen_tree
returns c = refl

use Rattle.std.proofs.Common.{refl}
use Rattle.hack_cpu.specs.Trees.{rom_tree, keyboard_tree, cpu_tree, memory_tree, computer_tree}
use Rattle.hack_cpu.proofs.laws.computer_texts_law.Goals as goal

pub returns : goal.returns
unfolding rom_tree keyboard_tree cpu_tree memory_tree computer_tree
returns c = refl

use Rattle.std.proofs.Common.{refl}
use Rattle.hack_cpu.specs.Trees.{computer_tree, cpu_tree, memory_tree}
use Rattle.computer_laws.proofs.places_law.Goals as goal

pub returns : goal.returns
unfolding computer_tree cpu_tree memory_tree
returns c = record { cpu = refl; rom = refl; memory = refl; a_register = refl; d_register = refl; pc = refl; main = refl; screen = refl; keyboard = refl }

use Rattle.std.proofs.Common.{refl}
use Rattle.hack_cpu.specs.Trees.{cpu_tree}
use Rattle.hack_cpu.proofs.laws.registers_law.Goals as goal

pub returns : goal.returns
unfolding cpu_tree
returns c = (refl, refl, refl)

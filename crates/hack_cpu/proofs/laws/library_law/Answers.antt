use Rattle.hack_cpu.proofs.HasAll.{has_all}
use Rattle.hack_cpu.proofs.laws.library_law.Goals as goal

pub returns : goal.returns
returns c memories = has_all memories

use Rattle.hack_cpu.proofs.Libraries.{libraries}
use Rattle.hack_cpu.proofs.laws.libraries_law.Goals as goal

pub returns : goal.returns
returns c = libraries

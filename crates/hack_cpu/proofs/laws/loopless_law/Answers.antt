use Rattle.hack_cpu.proofs.Shown.{no_loop}
use Rattle.hack_cpu.proofs.laws.loopless_law.Goals as goal

pub returns : goal.returns
returns c = no_loop

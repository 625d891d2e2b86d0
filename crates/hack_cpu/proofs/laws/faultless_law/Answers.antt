use Rattle.hack_cpu.proofs.Shown.{no_fault}
use Rattle.hack_cpu.proofs.laws.faultless_law.Goals as goal

pub returns : goal.returns
returns c = no_fault

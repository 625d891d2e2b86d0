use Rattle.hack_cpu.proofs.Existing.{runs}
use Rattle.hack_cpu.proofs.laws.runs_law.Goals as goal

pub returns : goal.returns
returns c = runs

use Rattle.hack_cpu.proofs.Existing.{existing}
use Rattle.hack_cpu.proofs.laws.existence_law.Goals as goal

pub returns : goal.returns
returns c = existing

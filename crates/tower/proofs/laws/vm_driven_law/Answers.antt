use Rattle.tower.proofs.VmRuns.{driven}
use Rattle.tower.proofs.laws.vm_driven_law.Goals as goal

pub returns : goal.returns
returns c = driven

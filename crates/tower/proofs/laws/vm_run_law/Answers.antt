use Rattle.tower.proofs.VmRuns.{follows}
use Rattle.tower.proofs.laws.vm_run_law.Goals as goal

pub returns : goal.returns
returns c = follows

use Rattle.soak_outcome.proofs.Agreeing.{agree}
use Rattle.soak_outcome.proofs.agree_law.Goals as goal

pub returns : goal.returns
returns c = agree c.resolved_law.ensures c.computer_law.ensures c.vm_run_law.ensures c.seen_law.ensures

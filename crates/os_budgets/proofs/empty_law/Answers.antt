use Rattle.os_budgets.proofs.Budgets.{empty_law}
use Rattle.os_budgets.proofs.empty_law.Goals as goal

pub returns : goal.returns
returns c = empty_law

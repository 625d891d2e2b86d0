use Rattle.os_budgets.proofs.Budgets.{each_law}
use Rattle.os_budgets.proofs.each_law.Goals as goal

pub returns : goal.returns
returns c = each_law

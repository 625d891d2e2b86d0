use Rattle.tower.proofs.Budgets.{budgets}
use Rattle.tower.proofs.BudgetRows.{rows}
use Rattle.tower.proofs.laws.budget_law.Goals as goal

pub returns-clause-budgets : goal.returns-clause-budgets
returns-clause-budgets c = budgets

pub returns-clause-rows : goal.returns-clause-rows
returns-clause-rows c = rows

use Rattle.os_budgets.proofs.EachFolder.{each_folder}
use Rattle.os_budgets.proofs.each_folder_law.Goals as goal

pub returns : goal.returns
returns c = each_folder c.resolved_law.ensures

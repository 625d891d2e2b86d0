use Rattle.command_laws.proofs.LinesExactly.{exact}
use Rattle.command_laws.proofs.exact.exact_law.Goals as goal

pub returns : goal.returns
returns c = exact c.classes_exact_law.ensures c.file_exact_law.ensures c.vm_exact_law.ensures c.chip_exact_law.ensures c.soak_exact_law.ensures

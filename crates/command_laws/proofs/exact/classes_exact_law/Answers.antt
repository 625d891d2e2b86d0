use Rattle.command_laws.proofs.LinesExactly.{classes_exact}
use Rattle.command_laws.proofs.exact.classes_exact_law.Goals as goal

pub returns : goal.returns
returns c = classes_exact c.class_law.ensures c.reading_law.ensures

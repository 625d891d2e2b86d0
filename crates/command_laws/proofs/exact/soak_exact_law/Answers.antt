use Rattle.command_laws.proofs.SoakExactly.{soak_exact}
use Rattle.command_laws.proofs.exact.soak_exact_law.Goals as goal

pub returns : goal.returns
returns c = soak_exact c.class_law.ensures c.one_text_law.ensures c.classes_exact_law.ensures

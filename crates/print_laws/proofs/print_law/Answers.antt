use Rattle.print_laws.proofs.Reprinted.{law}
use Rattle.print_laws.proofs.print_law.Goals as goal

pub returns : goal.returns
returns c = law c.class_law.ensures c.spelled_law.ensures c.printed_class_law.ensures

use Rattle.command_laws.proofs.Exactly.{file_exact}
use Rattle.command_laws.proofs.exact.file_exact_law.Goals as goal

pub returns : goal.returns
returns c = file_exact c.assembly_law.ensures c.hack_law.ensures c.reading_law.ensures c.class_law.ensures c.reading_law-2.ensures

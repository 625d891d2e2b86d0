use Rattle.command_laws.proofs.RunExactly.{one_meaning}
use Rattle.command_laws.proofs.exact.one_program_law.Goals as goal

pub returns : goal.returns
returns c files folder = one_meaning c.class_law.ensures files folder

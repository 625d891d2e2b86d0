use Rattle.count_laws.proofs.Programs.{program_fits}
use Rattle.count_laws.proofs.program_law.Goals as goal

pub returns : goal.returns
returns c = program_fits c.read_law.ensures c.resolved_law.ensures

use Rattle.os_functions.proofs.MemoryRuns.{law}
use Rattle.os_functions.proofs.memory_laws.Goals as goal

pub returns : goal.returns
returns c = law

use Rattle.chip_memory.proofs.Counter.{pc_works}
use Rattle.chip_memory.proofs.laws.pc_law.Goals as goal

pub returns : goal.returns
returns c world library n wires has h k lt = pc_works world library has n wires h k lt

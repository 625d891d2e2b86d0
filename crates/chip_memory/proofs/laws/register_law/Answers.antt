use Rattle.chip_memory.proofs.Registers.{register_works}
use Rattle.chip_memory.proofs.laws.register_law.Goals as goal

pub returns : goal.returns
returns c world library n wires has h k lt = register_works world library has n wires h k lt

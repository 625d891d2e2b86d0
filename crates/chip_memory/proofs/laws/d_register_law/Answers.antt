use Rattle.chip_memory.proofs.Registers.{d_register_works}
use Rattle.chip_memory.proofs.laws.d_register_law.Goals as goal

pub returns : goal.returns
returns c world library n wires has h k lt = d_register_works world library has n wires h k lt

use Rattle.chip_memory.proofs.Registers.{a_register_works}
use Rattle.chip_memory.proofs.laws.a_register_law.Goals as goal

pub returns : goal.returns
returns c world library n wires has h k lt = a_register_works world library has n wires h k lt

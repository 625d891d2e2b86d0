use Rattle.chip_memory.proofs.Registers.{bit_works}
use Rattle.chip_memory.proofs.laws.bit_law.Goals as goal

pub returns : goal.returns
returns c world library n wires has h k lt = bit_works world library has n wires h k lt

use Rattle.chip_memory.proofs.Rams.{ram8_works}
use Rattle.chip_memory.proofs.laws.ram8_law.Goals as goal

pub returns : goal.returns
returns c world entries n wires has h k lt = ram8_works world entries n has wires h k lt

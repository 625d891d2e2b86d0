use Rattle.chip_memory.proofs.Rams.{ram4k_works}
use Rattle.chip_memory.proofs.laws.ram4k_law.Goals as goal

pub returns : goal.returns
returns c world entries n wires has h k lt = ram4k_works world entries n has wires h k lt

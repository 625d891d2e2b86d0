use Rattle.chip_memory.proofs.Rams.{ram64_works}
use Rattle.chip_memory.proofs.laws.ram64_law.Goals as goal

pub returns : goal.returns
returns c world entries n wires has h k lt = ram64_works world entries n has wires h k lt

use Rattle.chip_memory.proofs.Rams.{ram512_works}
use Rattle.chip_memory.proofs.laws.ram512_law.Goals as goal

pub returns : goal.returns
returns c world entries n wires has h k lt = ram512_works world entries n has wires h k lt

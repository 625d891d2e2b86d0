use Rattle.chip_memory.proofs.Rams.{ram16k_works}
use Rattle.chip_memory.proofs.laws.ram16k_law.Goals as goal

pub returns : goal.returns
returns c world entries n wires has h k lt = ram16k_works world entries n has wires h k lt

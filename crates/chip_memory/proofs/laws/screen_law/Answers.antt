use Rattle.chip_memory.proofs.Rams.{screen_works}
use Rattle.chip_memory.proofs.laws.screen_law.Goals as goal

pub returns : goal.returns
returns c world entries n wires has h k lt = screen_works world entries n has wires h k lt

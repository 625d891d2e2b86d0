use Rattle.chip_basic.proofs.Ways.{mux4way16_works}
use Rattle.chip_basic.proofs.laws.mux4way16_law.Goals as goal

pub returns : goal.returns
returns c world library n wires has h k lt = mux4way16_works world library has k wires (h k lt)

use Rattle.chip_basic.proofs.Words.{mux16_works}
use Rattle.chip_basic.proofs.laws.mux16_law.Goals as goal

pub returns : goal.returns
returns c world library n wires has h k lt = mux16_works world library has k wires (h k lt)

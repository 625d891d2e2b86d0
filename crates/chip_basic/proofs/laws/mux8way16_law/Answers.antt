use Rattle.chip_basic.proofs.Ways.{mux8way16_works}
use Rattle.chip_basic.proofs.laws.mux8way16_law.Goals as goal

pub returns : goal.returns
returns c world library n wires has h k lt = mux8way16_works world library has k wires (h k lt)

use Rattle.chip_basic.proofs.Gates.{mux_works}
use Rattle.chip_basic.proofs.laws.mux_law.Goals as goal

pub returns : goal.returns
returns c world library n wires has h k lt = mux_works world library has k wires (h k lt)

use Rattle.chip_basic.proofs.Gates.{not_works}
use Rattle.chip_basic.proofs.laws.not_law.Goals as goal

pub returns : goal.returns
returns c world library n wires has h k lt = not_works world library has k wires (h k lt)

use Rattle.chip_basic.proofs.Gates.{and_works}
use Rattle.chip_basic.proofs.laws.and_law.Goals as goal

pub returns : goal.returns
returns c world library n wires has h k lt = and_works world library has k wires (h k lt)

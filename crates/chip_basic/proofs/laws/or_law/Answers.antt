use Rattle.chip_basic.proofs.Gates.{or_works}
use Rattle.chip_basic.proofs.laws.or_law.Goals as goal

pub returns : goal.returns
returns c world library n wires has h k lt = or_works world library has k wires (h k lt)

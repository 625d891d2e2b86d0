use Rattle.chip_basic.proofs.Words.{and16_works}
use Rattle.chip_basic.proofs.laws.and16_law.Goals as goal

pub returns : goal.returns
returns c world library n wires has h k lt = and16_works world library has k wires (h k lt)

use Rattle.chip_basic.proofs.Words.{or16_works}
use Rattle.chip_basic.proofs.laws.or16_law.Goals as goal

pub returns : goal.returns
returns c world library n wires has h k lt = or16_works world library has k wires (h k lt)

use Rattle.chip_basic.proofs.Words.{not16_works}
use Rattle.chip_basic.proofs.laws.not16_law.Goals as goal

pub returns : goal.returns
returns c world library n wires has h k lt = not16_works world library has k wires (h k lt)

use Rattle.chip_basic.proofs.Gates.{xor_works}
use Rattle.chip_basic.proofs.laws.xor_law.Goals as goal

pub returns : goal.returns
returns c world library n wires has h k lt = xor_works world library has k wires (h k lt)

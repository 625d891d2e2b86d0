use Rattle.chip_basic.proofs.Gates.{dmux_works}
use Rattle.chip_basic.proofs.laws.dmux_law.Goals as goal

pub returns : goal.returns
returns c world library n wires has h k lt = dmux_works world library has k wires (h k lt)

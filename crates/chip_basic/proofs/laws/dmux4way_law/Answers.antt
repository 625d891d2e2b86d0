use Rattle.chip_basic.proofs.Ways.{dmux4way_works}
use Rattle.chip_basic.proofs.laws.dmux4way_law.Goals as goal

pub returns : goal.returns
returns c world library n wires has h k lt = dmux4way_works world library has k wires (h k lt)

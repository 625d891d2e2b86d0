use Rattle.chip_basic.proofs.Ways.{dmux8way_works}
use Rattle.chip_basic.proofs.laws.dmux8way_law.Goals as goal

pub returns : goal.returns
returns c world library n wires has h k lt = dmux8way_works world library has k wires (h k lt)

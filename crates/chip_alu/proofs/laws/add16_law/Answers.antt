use Rattle.chip_alu.proofs.Adders.{add16_works}
use Rattle.chip_alu.proofs.laws.add16_law.Goals as goal

pub returns : goal.returns
returns c world library n wires has h k lt = add16_works world library has k wires (h k lt)

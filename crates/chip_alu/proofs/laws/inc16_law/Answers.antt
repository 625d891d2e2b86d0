use Rattle.chip_alu.proofs.Adders.{inc16_works}
use Rattle.chip_alu.proofs.laws.inc16_law.Goals as goal

pub returns : goal.returns
returns c world library n wires has h k lt = inc16_works world library has k wires (h k lt)

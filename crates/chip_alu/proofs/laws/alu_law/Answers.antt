use Rattle.chip_alu.proofs.Alu.{alu_works}
use Rattle.chip_alu.proofs.laws.alu_law.Goals as goal

pub returns : goal.returns
returns c world library n wires has h k lt = alu_works world library has k wires (h k lt)

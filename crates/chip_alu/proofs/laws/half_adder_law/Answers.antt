use Rattle.chip_alu.proofs.Adders.{half_adder_works}
use Rattle.chip_alu.proofs.laws.half_adder_law.Goals as goal

pub returns : goal.returns
returns c world library n wires has h k lt = half_adder_works world library has k wires (h k lt)

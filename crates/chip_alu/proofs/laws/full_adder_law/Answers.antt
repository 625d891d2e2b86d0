use Rattle.chip_alu.proofs.Adders.{full_adder_works}
use Rattle.chip_alu.proofs.laws.full_adder_law.Goals as goal

pub returns : goal.returns
returns c world library n wires has h k lt = full_adder_works world library has k wires (h k lt)

use Rattle.chip_alu.proofs.Shifts.{shift_works}
use Rattle.chip_alu.proofs.laws.shift_law.Goals as goal

pub returns : goal.returns
returns c world library n wires has h k lt = shift_works world library has k wires (h k lt)

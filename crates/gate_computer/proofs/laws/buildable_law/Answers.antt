use Rattle.gate_computer.proofs.Shipped.{can_be_net}
use Rattle.gate_computer.proofs.laws.buildable_law.Goals as goal

pub returns : goal.returns
returns c = can_be_net

use Rattle.gate_computer.proofs.Counting.{nodes}
use Rattle.gate_computer.proofs.laws.nodes_law.Goals as goal

pub returns : goal.returns
returns c = nodes

use Rattle.gate_computer.proofs.Seen.{gates}
use Rattle.gate_computer.proofs.laws.gates_law.Goals as goal

pub returns : goal.returns
returns g c = λ meaning start image map keys most n f m wires near is. gates _ meaning start image map keys most n f m wires near is

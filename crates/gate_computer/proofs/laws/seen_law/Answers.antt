use Rattle.gate_computer.proofs.Seen.{seen}
use Rattle.gate_computer.proofs.laws.seen_law.Goals as goal

pub returns : goal.returns
returns c image map keys m wires is n lt = seen image map keys m wires is n lt

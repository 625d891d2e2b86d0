use Rattle.hack_cpu.proofs.Cycle.{same}
use Rattle.computer_laws.proofs.whole_cycle_law.Goals as goal

pub returns : goal.returns
returns c image keys library n wires has h no_reset k lt = same image keys library has n wires h no_reset k lt

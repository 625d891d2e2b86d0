use Rattle.hack_cpu.proofs.Cpu.{cpu_works}
use Rattle.hack_cpu.proofs.laws.cpu_law.Goals as goal

pub returns : goal.returns
returns c world library n wires has h k lt = cpu_works world library has n wires h k lt

use Rattle.computer_laws.proofs.Mapped.{gives, mapped}
use Rattle.computer_laws.proofs.memory_law.Goals as goal

pub returns : goal.returns
returns c = record {
  works = λ world library n wires has h k lt. gives world library has n wires h k lt;
  map = λ world library n wires has h k lt a small. mapped world library has n wires h k lt a small;
}

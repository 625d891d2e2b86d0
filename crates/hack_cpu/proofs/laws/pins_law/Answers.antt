use Rattle.hack_cpu.proofs.Faces.{faces}
use Rattle.hack_cpu.proofs.laws.pins_law.Goals as goal

pub returns : goal.returns
returns c = faces

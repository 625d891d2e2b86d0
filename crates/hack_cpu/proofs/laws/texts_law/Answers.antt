use Rattle.hack_cpu.proofs.Printed.{all_printed}
use Rattle.hack_cpu.proofs.laws.texts_law.Goals as goal

pub returns : goal.returns
returns c = all_printed

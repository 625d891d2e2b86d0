use Rattle.hack_asm.proofs.HackLines.{one_meaning}
use Rattle.hack_asm.proofs.hack_reading.hack_law.Goals as goal

pub returns : goal.returns
returns c = one_meaning

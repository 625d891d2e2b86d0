use Rattle.hack_asm.proofs.Meanings.{one_meaning}
use Rattle.hack_asm.proofs.assembling.assembly_law.Goals as goal

pub returns : goal.returns
returns c = one_meaning

use Rattle.hack_asm.proofs.Shapes.{comps_have_rows}
use Rattle.hack_asm.proofs.assembling.comp_law.Goals as goal

pub returns : goal.returns
returns c = comps_have_rows

use Rattle.soak_program.proofs.Short.{no_text_long}
use Rattle.soak_program.proofs.laws.length_law.Goals as goal

pub returns : goal.returns
returns c = no_text_long

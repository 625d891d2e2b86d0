use Rattle.soak_program.proofs.Sole.{one_text}
use Rattle.soak_program.proofs.laws.one_text_law.Goals as goal

pub returns : goal.returns
returns c = one_text

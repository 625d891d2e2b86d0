use Rattle.command_laws.proofs.SoakAnswered.{soak_answered}
use Rattle.command_laws.proofs.total.soak_answered_law.Goals as goal

pub returns : goal.returns
returns c = soak_answered c.classes_answered_law.ensures c.one_text_law.ensures

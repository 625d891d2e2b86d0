use Rattle.os_texts.proofs.Fixed.{law}
use Rattle.os_texts.proofs.texts_law.Goals as goal

pub returns : goal.returns
returns c = law

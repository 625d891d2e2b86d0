use Rattle.whole_laws.proofs.Whole.{headline}
use Rattle.whole_laws.proofs.whole_headline_law.Goals as goal

pub returns : goal.returns
returns c core image resolved is keys words n = headline core image resolved is keys words n

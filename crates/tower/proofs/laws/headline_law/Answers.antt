use Rattle.tower.proofs.Headline.{headline}
use Rattle.tower.proofs.laws.headline_law.Goals as goal

pub returns : goal.returns
returns c = headline

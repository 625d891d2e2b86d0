use Rattle.whole_laws.proofs.Whole.{runs}
use Rattle.whole_laws.proofs.whole_runs_law.Goals as goal

pub returns : goal.returns
returns c memories image keys n words held = runs memories image keys n words held

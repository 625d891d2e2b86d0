use Rattle.debug_laws.proofs.Shown.{class_places}
use Rattle.debug_laws.proofs.class_places_law.Goals as goal

pub returns : goal.returns
returns c = class_places c.resolved_law.ensures

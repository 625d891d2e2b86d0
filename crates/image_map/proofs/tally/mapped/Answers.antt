use Rattle.image_map.proofs.Tallying.{mapped_none, mapped_to}
use Rattle.image_map.proofs.tally.mapped.Goals as goal

pub returns-in-Some : goal.returns-in-Some
returns-in-Some c = λ end covers. mapped_to c.args.points.now 0 end c.in-Some.range.now c.in-Some.ensures.value covers

pub returns-in-None : goal.returns-in-None
returns-in-None c = λ end covers. mapped_none c.args.points.now end c.in-None.ensures.value covers

use Rattle.vm_templates.proofs.Ways.{steps_are_ways}
use Rattle.vm_templates.proofs.laws.ways_law.Goals as goal

pub returns : goal.returns
returns c s = steps_are_ways

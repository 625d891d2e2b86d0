use Rattle.tower.proofs.Mapped.{followed_none}
use Rattle.tower.proofs.hack_level.HackLevel.new.Goals as goal

pub returns-clause-stands : goal.returns-clause-stands
returns-clause-stands c = followed_none _ c.in_ok-new.ensures.start c.in_ok-new.ensures.run.count c.in_ok-new-2.ensures.tallied

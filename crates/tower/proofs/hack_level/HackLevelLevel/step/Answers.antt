use Rattle.std.proofs.Common.{◌++◌, ◌∷◌, [], sym, subst}
use Rattle.machine_io.specs.History.{turn}
use Rattle.tower.specs.Mapped.{HasFollowed}
use Rattle.tower.proofs.hack_level.HackLevelLevel.step.Goals as goal

pub returns-clause-stands : goal.returns-clause-stands
returns-clause-stands c = λ turns h. subst (λ answer. HasFollowed c.step.new.self (turns ++ turn c.args.key answer ∷ [])) (sym c.step.ensures.acts) (c.step.ensures.stands turns h)

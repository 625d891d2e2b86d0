use Rattle.std.proofs.Common.{◌∙◌, sym}
use Rattle.tower.proofs.Mapped.{followed_more}
use Rattle.tower.proofs.hack_level.HackLevel.step.Goals as goal

pub returns-clause-stands : goal.returns-clause-stands
returns-clause-stands c =
    rw (← c.self.view_is) (followed_more _ _ c.args.key c.step-answer.ensures.image c.step-answer.ensures.moves c.step-answer.ensures.step c.self.invariant.at
    (λ pc n h e. c.go.ensures.tallied pc n h (e ∙ sym c.pc.ensures.counter)))

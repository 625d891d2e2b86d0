use Rattle.hack_machine.proofs.Memory.{resulted}
use Rattle.hack_machine.proofs.Hack.put_result.Goals as goal

pub returns-clause-state : goal.returns-clause-state
returns-clause-state c =
    rw (← c.self.view_is) (resulted _ _ _ _ _ _ _ _ c.store.ensures.words c.chosen-self-inside.ensures c.chosen-self-inside-2.ensures c.landing-self-inside.ensures.value)

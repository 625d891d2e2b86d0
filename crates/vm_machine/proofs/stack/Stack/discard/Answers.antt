use Rattle.vm_machine.proofs.Laying.{discarded}
use Rattle.vm_machine.proofs.stack.Stack.discard.Goals as goal

pub returns-clause-top : goal.returns-clause-top
returns-clause-top c =
    let some = rw (← c.self.view_is) at c.requires in
    rw (← c.self.view_is) (discarded c.self.inside.words.items c.self.inside.top c.self.inside.end c.args.place some)

use Rattle.std.proofs.Common.{◌+◌, ◌-◌, arith, sym, ap, ◌∙◌}
use Rattle.std.specs.Prelude.{Some}
use Rattle.vm_machine.proofs.Laying.{reads, range_some, range_none}
use Rattle.vm_machine.proofs.stack.Stack.argument.Goals as goal

pub returns-then-at-self : goal.returns-then-at-self
returns-then-at-self c =
    let at = range_some c.self.inside.words.items c.self.inside.top.arguments (c.self.inside.top.locals - 5 - c.self.inside.top.arguments) c.args.i (c.self.inside.top.arguments + c.args.i) (omega arith) (omega (arith, c.if-at-self.true)) in
    let l = c.self.invariant.top_laid in
    let read = reads c.self.inside.words.items (c.self.inside.top.arguments + c.args.i) c.index.result.now c.index.ensures (omega (arith, c.if-at-self.true, l.locals, l.values, c.self.invariant.room, c.self.invariant.within)) in
    rw (← c.self.view_is) (ap Some read ∙ sym at)

pub returns-else-at-self : goal.returns-else-at-self
returns-else-at-self c =
    rw (← c.self.view_is) (sym (range_none c.self.inside.words.items c.self.inside.top.arguments (c.self.inside.top.locals - 5 - c.self.inside.top.arguments) c.args.i (omega (arith, c.if-at-self.false))))

use Rattle.std.proofs.Common.{◌-◌, arith, sym, ap, ◌∙◌}
use Rattle.std.specs.Prelude.{Some}
use Rattle.vm_machine.proofs.Laying.{reads, value_some, value_none}
use Rattle.vm_machine.proofs.stack.Stack.value.Goals as goal

pub returns-then-i-self : goal.returns-then-i-self
returns-then-i-self c =
    let at = value_some c.self.inside.words.items c.self.inside.top.values (c.self.inside.end - c.self.inside.top.values) c.args.i (c.self.inside.end - 1 - c.args.i) (omega (arith, c.if-i-self.true)) (omega (arith, c.if-i-self.true)) in
    let l = c.self.invariant.top_laid in
    let read = reads c.self.inside.words.items (c.self.inside.end - 1 - c.args.i) c.index.result.now c.index.ensures (omega (arith, c.if-i-self.true, l.locals, l.values, c.self.invariant.room, c.self.invariant.within)) in
    rw (← c.self.view_is) (ap Some read ∙ sym at)

pub returns-else-i-self : goal.returns-else-i-self
returns-else-i-self c =
    rw (← c.self.view_is) (sym (value_none c.self.inside.words.items c.self.inside.top.values (c.self.inside.end - c.self.inside.top.values) c.args.i (omega (arith, c.if-i-self.false))))

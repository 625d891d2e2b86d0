use Rattle.std.proofs.Common.{◌+◌, length, arith, ap, ◌∙◌}
use Rattle.vm_machine.specs.Calls.{Calls}
use Rattle.vm_machine.proofs.Laying.{in_use, in_below, begun, laid_begun, below_kept}
use Rattle.vm_machine.proofs.stack.Stack.make_locals.Goals as goal

pub clear-requires : goal.clear-requires
clear-requires c =
    let used = in_use c.self.inside.words.items c.self.inside.calls.items c.self.inside.depth c.self.inside.top c.self.inside.end c.args.self.now c.self.view_is c.self.invariant in
    omega (arith, used, c.requires.room, c.self.invariant.room)

pub invariant_of-self : goal.invariant_of-self
invariant_of-self c =
    let used = in_use c.self.inside.words.items c.self.inside.calls.items c.self.inside.depth c.self.inside.top c.self.inside.end c.args.self.now c.self.view_is c.self.invariant in
    let few = in_below c.self.inside.words.items c.self.inside.calls.items c.self.inside.depth c.self.inside.top c.self.inside.end c.args.self.now c.self.view_is in
    let l = c.self.invariant.top_laid in
    record {
      room = c.clear.ensures.length ∙ c.self.invariant.room;
      call_room = c.self.invariant.call_room;
      within = omega (arith, used, c.requires.room);
      deep = c.self.invariant.deep;
      top_laid = record { arguments = l.arguments; locals = omega (arith, l.locals, l.values); values = omega arith };
      laid = laid_begun c.self.inside.calls.items c.self.inside.depth c.self.inside.top c.args.place (c.self.inside.end + c.args.n) (omega (arith, few, c.requires.inner)) c.self.invariant.laid;
    }

pub returns-clause-top : goal.returns-clause-top
returns-clause-top c =
    rw (← c.self.view_is) (begun c.self.inside.words.items c.clear.new.words.items c.self.inside.top c.self.inside.end c.args.n c.args.place c.self.invariant.top_laid
    (ap (λ (z : Calls). length z.top.locals) c.self.view_is ∙ c.requires.no_locals) (ap (λ (z : Calls). length z.top.values) c.self.view_is ∙ c.requires.no_values)
    (λ k low high. c.clear.ensures.before k high) c.clear.ensures.zeros)

pub returns-clause-below : goal.returns-clause-below
returns-clause-below c =
    let l = c.self.invariant.top_laid in
    rw (← c.self.view_is) (below_kept c.self.inside.words.items c.clear.new.words.items c.self.inside.calls.items c.self.inside.depth c.self.inside.top c.self.inside.end
    (λ k low high. c.clear.ensures.before k high) c.self.invariant.laid (omega (arith, l.arguments, l.locals, l.values)))

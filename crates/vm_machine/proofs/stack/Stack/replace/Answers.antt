use Rattle.std.proofs.Common.{◌-◌, arith, ◌∙◌}
use Rattle.std.proofs.lemmas.List.{length-set}
use Rattle.vm_machine.proofs.Laying.{replaced, in_use, in_values, below_kept, set_after, laid_place}
use Rattle.vm_machine.proofs.stack.Stack.replace.Goals as goal

pub overflow_sub-at : goal.overflow_sub-at
overflow_sub-at c =
    let few = in_values c.self.inside.words.items c.self.inside.calls.items c.self.inside.depth c.self.inside.top c.self.inside.end c.args.self.now c.self.view_is in
    omega (arith, few, c.requires.count)

pub index_mut-requires : goal.index_mut-requires
index_mut-requires c =
    let used = in_use c.self.inside.words.items c.self.inside.calls.items c.self.inside.depth c.self.inside.top c.self.inside.end c.args.self.now c.self.view_is c.self.invariant in
    let few = in_values c.self.inside.words.items c.self.inside.calls.items c.self.inside.depth c.self.inside.top c.self.inside.end c.args.self.now c.self.view_is in
    omega (arith, used, few, c.requires.room, c.requires.count, c.self.invariant.room, c.self.invariant.within)

pub invariant_of-self : goal.invariant_of-self
invariant_of-self c =
    let used = in_use c.self.inside.words.items c.self.inside.calls.items c.self.inside.depth c.self.inside.top c.self.inside.end c.args.self.now c.self.view_is c.self.invariant in
    let few = in_values c.self.inside.words.items c.self.inside.calls.items c.self.inside.depth c.self.inside.top c.self.inside.end c.args.self.now c.self.view_is in
    let l = c.self.invariant.top_laid in
    record {
      room = length-set c.self.inside.words.items (c.self.inside.end - c.args.n) c.args.w ∙ c.self.invariant.room;
      call_room = c.self.invariant.call_room;
      within = omega (arith, used, few, c.requires.room, c.requires.count);
      deep = c.self.invariant.deep;
      top_laid = record { arguments = l.arguments; locals = l.locals; values = omega (arith, few, c.requires.count, l.values) };
      laid = laid_place c.self.inside.calls.items c.self.inside.depth c.self.inside.top c.args.place c.self.invariant.laid;
    }

pub returns-clause-top : goal.returns-clause-top
returns-clause-top c =
    let used = in_use c.self.inside.words.items c.self.inside.calls.items c.self.inside.depth c.self.inside.top c.self.inside.end c.args.self.now c.self.view_is c.self.invariant in
    let few = in_values c.self.inside.words.items c.self.inside.calls.items c.self.inside.depth c.self.inside.top c.self.inside.end c.args.self.now c.self.view_is in
    rw (← c.self.view_is)
    (replaced c.self.inside.words.items c.self.inside.top c.self.inside.end c.args.n c.args.w c.args.place c.self.invariant.top_laid (omega (arith, few, c.requires.count))
    (omega (arith, used, few, c.requires.room, c.requires.count, c.self.invariant.room, c.self.invariant.within)))

pub returns-clause-below : goal.returns-clause-below
returns-clause-below c =
    let few = in_values c.self.inside.words.items c.self.inside.calls.items c.self.inside.depth c.self.inside.top c.self.inside.end c.args.self.now c.self.view_is in
    let l = c.self.invariant.top_laid in
    rw (← c.self.view_is) (below_kept c.self.inside.words.items _ c.self.inside.calls.items c.self.inside.depth c.self.inside.top (c.self.inside.end - c.args.n)
    (set_after c.self.inside.words.items (c.self.inside.end - c.args.n) c.args.w 0 (c.self.inside.end - c.args.n) (omega arith)) c.self.invariant.laid (omega (arith, few, c.requires.count, l.arguments, l.locals, l.values)))

use Rattle.std.proofs.Common.{◌-◌, arith, ap, ◌∙◌, add-one, ℕ}
use Rattle.std.specs.Prelude.{slice_set}
use Rattle.vm_machine.specs.Calls.{below_of}
use Rattle.vm_machine.proofs.Laying.{in_use, in_values, call_frame, call_stack, waiting, deep}
use Rattle.vm_machine.proofs.stack.Stack.call.Goals as goal

pub overflow_sub-self : goal.overflow_sub-self
overflow_sub-self c =
    let few = in_values c.self.inside.words.items c.self.inside.calls.items c.self.inside.depth c.self.inside.top c.self.inside.end c.args.self.now c.self.view_is in
    omega (arith, few, c.requires.count)

pub invariant_of-self : goal.invariant_of-self
invariant_of-self c =
    let used = in_use c.self.inside.words.items c.self.inside.calls.items c.self.inside.depth c.self.inside.top c.self.inside.end c.args.self.now c.self.view_is c.self.invariant in
    let few = in_values c.self.inside.words.items c.self.inside.calls.items c.self.inside.depth c.self.inside.top c.self.inside.end c.args.self.now c.self.view_is in
    call_stack c.self.inside.words.items c.self.inside.calls.items c.self.inside.depth c.self.inside.top c.self.inside.end c.args.function c.args.n c.args.place c.self.invariant
    (omega (arith, few, c.requires.count)) (omega (arith, used, c.requires.room))

pub returns-clause-top : goal.returns-clause-top
returns-clause-top c =
    let few = in_values c.self.inside.words.items c.self.inside.calls.items c.self.inside.depth c.self.inside.top c.self.inside.end c.args.self.now c.self.view_is in
    rw (← c.self.view_is) (call_frame c.self.inside.words.items c.self.inside.top c.self.inside.end c.args.function c.args.n (omega (arith, few, c.requires.count)) c.self.invariant.top_laid.values)

pub returns-clause-below : goal.returns-clause-below
returns-clause-below c =
    let used = in_use c.self.inside.words.items c.self.inside.calls.items c.self.inside.depth c.self.inside.top c.self.inside.end c.args.self.now c.self.view_is c.self.invariant in
    let few = in_values c.self.inside.words.items c.self.inside.calls.items c.self.inside.depth c.self.inside.top c.self.inside.end c.args.self.now c.self.view_is in
    let l = c.self.invariant.top_laid in
    let depth = deep c.self.inside.calls.items c.self.inside.depth c.self.inside.top c.self.invariant.laid in
    let shown = waiting c.self.inside.words.items c.self.inside.calls.items c.self.inside.depth c.self.inside.top c.self.inside.end c.args.n c.args.place
    (omega (arith, depth, l.locals, l.values, used, c.requires.room, c.self.invariant.call_room)) (omega (arith, few, c.requires.count)) l.values in
    rw (← c.self.view_is) (ap (λ (k : ℕ). below_of c.self.inside.words.items (slice_set c.self.inside.calls.items c.self.inside.depth (record c.self.inside.top { place = c.args.place })) k (c.self.inside.end - c.args.n)) (add-one c.self.inside.depth) ∙ shown)

use Rattle.std.proofs.Common.{◌-◌, arith, ap, ◌∙◌}
use Rattle.vm_machine.specs.Calls.{Calls}
use Rattle.vm_machine.proofs.Laying.{in_below, reads_call, left}
use Rattle.vm_machine.proofs.stack.Stack.leave.Goals as goal

pub returns-clause-top : goal.returns-clause-top
returns-clause-top c =
    let few = in_below c.self.inside.words.items c.self.inside.calls.items c.self.inside.depth c.self.inside.top c.self.inside.end c.args.self.now c.self.view_is in
    let read = reads_call c.self.inside.calls.items (c.self.inside.depth - 1) c.index.result.now c.index.ensures (omega (arith, few, c.requires, c.self.invariant.call_room, c.self.invariant.deep)) in
    let l = left c.self.inside.words.items c.self.inside.calls.items c.self.inside.depth c.self.inside.top c.index.result.now c.self.inside.end c.args.w c.self.invariant (omega (arith, few, c.requires)) read in
    λ f rest e. l.top f rest (ap (λ (z : Calls). z.below) c.self.view_is ∙ e)

pub returns-clause-below : goal.returns-clause-below
returns-clause-below c =
    let few = in_below c.self.inside.words.items c.self.inside.calls.items c.self.inside.depth c.self.inside.top c.self.inside.end c.args.self.now c.self.view_is in
    let read = reads_call c.self.inside.calls.items (c.self.inside.depth - 1) c.index.result.now c.index.ensures (omega (arith, few, c.requires, c.self.invariant.call_room, c.self.invariant.deep)) in
    let l = left c.self.inside.words.items c.self.inside.calls.items c.self.inside.depth c.self.inside.top c.index.result.now c.self.inside.end c.args.w c.self.invariant (omega (arith, few, c.requires)) read in
    λ f rest e. l.below f rest (ap (λ (z : Calls). z.below) c.self.view_is ∙ e)

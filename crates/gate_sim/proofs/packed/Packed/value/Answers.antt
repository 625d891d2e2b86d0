use Rattle.std.proofs.Common.{◌<◌, length, arith, sym, subst, ap, ◌∙◌}
use Rattle.netlist.specs.Present.{value_in}
use Rattle.gate_sim.proofs.Placing.{placed_in, placed_over, value_over}
use Rattle.gate_sim.proofs.packed.Packed.value.Goals as goal

pub value_of-requires-clause-node : goal.value_of-requires-clause-node
value_of-requires-clause-node c =
    let less = subst (λ s. c.args.node < length s.net.nodes) (sym c.self.view_is) c.requires in
    let long = c.self.invariant.is_plan.places_long in
    let same = ap length c.deref.ensures.value in
    omega arith

pub value_of-requires-clause-places : goal.value_of-requires-clause-places
value_of-requires-clause-places c =
    placed_over _ _ _ _ c.deref.ensures.value c.deref-2.ensures.value (placed_in _ _ _ _ _ _ c.self.invariant.is_plan c.self.invariant.slots_long)

pub returns : goal.returns
returns c =
    let less = subst (λ s. c.args.node < length s.net.nodes) (sym c.self.view_is) c.requires in
    let long = c.self.invariant.is_plan.places_long in
    c.value_of.ensures ∙ value_over _ _ _ _ c.args.node c.deref.ensures.value c.deref-2.ensures.value (omega arith) ∙ ap (λ s. value_in s.values c.args.node) c.self.view_is

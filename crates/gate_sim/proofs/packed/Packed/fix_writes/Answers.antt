use Rattle.std.proofs.Common.{◌≡◌, Some, length, arith, refl, sym, subst, ap, ◌∙◌}
use Rattle.std.specs.Prelude.{slice_get}
use Rattle.netlist.specs.Order.{HasInputs}
use Rattle.netlist.specs.Present.{value_in}
use Rattle.netlist.specs.Value.{written_in}
use Rattle.netlist.proofs.Plain.{written_same}
use Rattle.gate_sim.specs.Inner.Slots.{value_at, values_of}
use Rattle.gate_sim.proofs.Placing.{placed_in, placed_over, value_over}
use Rattle.gate_sim.proofs.packed.Packed.fix_writes.Goals as goal

pub fix_writes-requires-clause-inputs : goal.fix_writes-requires-clause-inputs
fix_writes-requires-clause-inputs c b block there =
    let same = subst (λ l. slice_get l b ≡ Some block) c.blocks-2.ensures.value there in
    subst (λ n. HasInputs n block) (sym c.self.invariant.is_plan.places_long ∙ ap length (sym c.deref.ensures.value)) (c.blocks-2.ensures.ordered.read b block same)

pub fix_writes-requires-clause-places : goal.fix_writes-requires-clause-places
fix_writes-requires-clause-places c =
    placed_over _ _ _ _ c.deref.ensures.value c.deref-2.ensures.value (placed_in _ _ _ _ _ _ c.self.invariant.is_plan c.self.invariant.slots_long)

pub returns-clause-words : goal.returns-clause-words
returns-clause-words c b a old =
    let long = c.self.invariant.is_plan.places_long in
    c.fix_writes.ensures.words b a old
    ∙ ap (λ l. written_in (slice_get l b) (value_at c.deref.result.now c.deref-2.result.now) a old) c.blocks-2.ensures.value
    ∙ written_same (slice_get c.self.inside.net.blocks b) (length c.self.inside.net.nodes) (value_at c.deref.result.now c.deref-2.result.now) (value_in (values_of c.self.inside.places.items c.self.inside.slots.items)) a old old (c.blocks-2.ensures.ordered.read b)
    (λ i less. value_over _ _ _ _ i c.deref.ensures.value c.deref-2.ensures.value (omega arith)) refl
    ∙ ap (λ s. written_in (slice_get s.net.blocks b) (value_in s.values) a old) c.self.view_is

use Rattle.std.proofs.Common.{◌≡◌, ◌<◌, ◌+◌, ℕ, Some, refl, length, arith, sym, subst, ap, ◌∙◌}
use Rattle.std.specs.Prelude.{slice_get}
use Rattle.std.proofs.lemmas.List.{take_at}
use Rattle.std.proofs.lemmas.Option.{slice_get_within}
use Rattle.netlist.specs.declared.node.Node.TheVariants.{Flip}
use Rattle.netlist.specs.Present.{value_in}
use Rattle.gate_sim.specs.Inner.Pieces.{pieces_in, take_mark}
use Rattle.gate_sim.specs.Inner.Plans.{place_of, IsPlaced}
use Rattle.gate_sim.specs.Inner.Slots.{AreStored, values_of, bits_of, word_lane}
use Rattle.gate_sim.specs.Inner.Takes.{AreTakes}
use Rattle.gate_sim.proofs.Fields.{state_fixed}
use Rattle.gate_sim.proofs.Placing.{to_lists, lane_value_over, idle_over, given_over, taken_over}
use Rattle.gate_sim.proofs.Idle.{idle_pieces, given_all, due_after}
use Rattle.gate_sim.proofs.Taking.{bit_placed}
use Rattle.gate_sim.proofs.packed.Packed.fix_states.Goals as goal

-- the lists behind the slices: nodes, lanes (deref), places (deref-2), takes (deref-3), slots (deref-4)
pub fix_states-requires-clause-takes : goal.fix_states-requires-clause-takes
fix_states-requires-clause-takes c =
    to_lists (λ nodes lanes places takes slots. AreTakes nodes (length slots) lanes places takes) _ _ _ _ _ _ _ _ _ _
    c.nodes.ensures.value c.deref.ensures.value c.deref-2.ensures.value c.deref-3.ensures.value c.deref-4.ensures.value
    (subst (λ n. AreTakes c.self.inside.net.nodes n c.self.inside.lanes.items c.self.inside.places.items c.self.inside.takes.items) (sym c.self.invariant.slots_long) c.self.invariant.are_takes)

pub fix_states-requires-clause-placed : goal.fix_states-requires-clause-placed
fix_states-requires-clause-placed c =
    to_lists (λ nodes lanes places takes slots. (k : ℕ) → k < length nodes → IsPlaced (length slots) lanes places k) _ _ _ _ _ _ _ _ _ _
    c.nodes.ensures.value c.deref.ensures.value c.deref-2.ensures.value c.deref-3.ensures.value c.deref-4.ensures.value
    (subst (λ n. (k : ℕ) → k < length c.self.inside.net.nodes → IsPlaced n c.self.inside.lanes.items c.self.inside.places.items k) (sym c.self.invariant.slots_long) c.self.invariant.is_plan.placed)

pub fix_states-requires-clause-stored : goal.fix_states-requires-clause-stored
fix_states-requires-clause-stored c =
    to_lists (λ nodes lanes places takes slots. AreStored (length nodes) lanes (value_in (values_of places slots)) slots) _ _ _ _ _ _ _ _ _ _
    c.nodes.ensures.value c.deref.ensures.value c.deref-2.ensures.value c.deref-3.ensures.value c.deref-4.ensures.value c.self.invariant.stored

pub fix_states-requires-clause-inputs : goal.fix_states-requires-clause-inputs
fix_states-requires-clause-inputs c =
    subst (λ nodes. (k i : ℕ) → slice_get nodes k ≡ Some (Flip i) → i < length nodes) (sym c.nodes.ensures.value) (λ k i at. c.nodes.ensures.ordered.fit k (Flip i) at)

pub fix_states-requires-clause-given : goal.fix_states-requires-clause-given
fix_states-requires-clause-given c =
    given_over _ _ _ _ _ _ _ _ _ _ _ _ _ _
    (sym c.nodes.ensures.value) (sym c.deref-2.ensures.value) (sym c.deref-3.ensures.value) (sym c.self.invariant.slots_long ∙ ap length (sym c.deref-4.ensures.value)) (sym c.deref_mut-2.ensures.value) (sym c.deref-4.ensures.value) (sym c.deref_mut.ensures.value) c.self.invariant.given

pub invariant_of-self : goal.invariant_of-self
invariant_of-self c =
    let cut = take_at c.fix_states.new.fixed _ _ (omega arith) in
    let marked = take_at c.fix_states.new.marks _ _ (omega arith) in
    let dues = take_at c.fix_states.new.due _ _ (omega arith) in
    let marks = c.self.invariant.marks_long in
    let due = c.self.invariant.due_long in
    let fixed = c.self.invariant.fixed_long in
    let n : length c.deref-4.result.now ≡ length c.self.inside.ops.items = ap length c.deref-4.ensures.value ∙ c.self.invariant.slots_long in
    let t : length c.deref-3.result.now ≡ length c.self.inside.takes.items = ap length c.deref-3.ensures.value in
    let right : (k i : ℕ) → slice_get c.self.inside.net.nodes k ≡ Some (Flip i) → word_lane c.fix_states.new.fixed (place_of c.self.inside.places.items k) ≡ value_in (values_of c.self.inside.places.items c.self.inside.slots.items) i = λ k i at. lane_value_over c.self.inside.places.items _ c.fix_states.new.fixed c.self.inside.slots.items _ k i c.deref-2.ensures.value c.deref-4.ensures.value (c.fix_states.ensures.flips k i (subst (λ l. slice_get l k ≡ Some (Flip i)) (sym c.nodes.ensures.value) at)) in
    record {
      is_plan = c.self.invariant.is_plan;
      are_takes = c.self.invariant.are_takes;
      slots_long = c.self.invariant.slots_long;
      start_long = c.self.invariant.start_long;
      fixed_long = ap length cut ∙ omega arith;
      stored = c.self.invariant.stored;
      readers = c.self.invariant.readers;
      marks_long = ap length marked ∙ omega arith;
      due_long = ap length dues ∙ omega arith;
      idle = λ small.
          idle_over _ _ _ _ _ _ _ _ _ _ _ _ _ _ refl refl refl refl refl refl (sym marked)
          (idle_pieces (length c.self.inside.net.nodes) c.self.inside.lanes.items (value_in (bits_of c.self.inside.places.items c.self.inside.start.items)) c.self.inside.ops.items c.self.inside.slots.items c.self.inside.marks.items c.fix_states.new.marks (c.self.invariant.still small)
          (λ m less. let low : m < pieces_in (length c.deref-4.result.now) = omega arith in c.fix_states.ensures.pieces m low ∙ ap (λ l. value_in l m) c.deref_mut-2.ensures.value)
          (c.self.invariant.idle small));
      still = c.self.invariant.still;
      given =
          given_over _ _ _ _ _ _ _ _ _ _ _ _ _ _ refl refl refl refl (sym marked) refl (sym cut)
          (given_all c.self.inside.net.nodes c.self.inside.places.items c.self.inside.takes.items (take_mark (pieces_in (length c.self.inside.ops.items)) c.fix_states.new.marks) (λ k i. value_in (values_of c.self.inside.places.items c.self.inside.slots.items) i) c.fix_states.new.fixed right);
      taken =
          taken_over _ _ _ _ _ _ _ _ _ _ _ _ refl refl refl (sym dues) (sym cut) refl
          (due_after c.self.inside.net.nodes c.self.inside.places.items c.self.inside.takes.items (pieces_in (length c.self.inside.ops.items)) c.self.inside.marks.items c.self.inside.due.items c.fix_states.new.due (value_in (values_of c.self.inside.places.items c.self.inside.slots.items)) c.self.inside.start.items c.self.inside.fixed.items c.fix_states.new.fixed
          (λ d less off.
          let low : d < pieces_in (length c.deref-3.result.now) = omega arith in
          let both = c.fix_states.ensures.due d low off in (
            sym (ap (λ l. value_in l d) c.deref_mut-3.ensures.value) ∙ both.0,
            ap (λ x. value_in c.self.inside.marks.items (pieces_in x + d)) (sym n) ∙ sym (ap (λ l. value_in l (pieces_in (length c.deref-4.result.now) + d)) c.deref_mut-2.ensures.value) ∙ both.1,
          ))
          right c.self.invariant.given c.self.invariant.taken);
    }

pub returns-clause-state : goal.returns-clause-state
returns-clause-state c = state_fixed _ _ _ c.self.view_is

pub returns-clause-flips : goal.returns-clause-flips
returns-clause-flips c k i at =
    let there = subst (λ s. slice_get s.net.nodes k ≡ Some (Flip i)) (sym c.self.view_is) at in
    let inside = slice_get_within c.self.inside.net.nodes k (Flip i) there in
    let long = c.self.invariant.is_plan.places_long in
    let cut = take_at c.fix_states.new.fixed _ _ (omega arith) in
    let here = subst (λ l. slice_get l k ≡ Some (Flip i)) (sym c.nodes.ensures.value) there in
    bit_placed c.self.inside.places.items _ k (omega arith)
    ∙ ap (λ w. word_lane w (place_of c.self.inside.places.items k)) cut
    ∙ lane_value_over _ _ c.fix_states.new.fixed _ _ k i c.deref-2.ensures.value c.deref-4.ensures.value (c.fix_states.ensures.flips k i here)
    ∙ ap (λ s. value_in s.values i) c.self.view_is

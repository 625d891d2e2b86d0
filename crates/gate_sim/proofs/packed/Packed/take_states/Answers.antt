use Rattle.std.proofs.Common.{◌≡◌, ◌<◌, ◌+◌, ℕ, Some, refl, length, arith, sym, subst, ap, ◌∙◌}
use Rattle.std.specs.Prelude.{slice_get}
use Rattle.std.proofs.lemmas.List.{take_at}
use Rattle.std.proofs.lemmas.Option.{slice_get_within}
use Rattle.netlist.specs.declared.node.Node.TheVariants.{Pin, Flip}
use Rattle.netlist.specs.Present.{value_in}
use Rattle.gate_sim.specs.Inner.Pieces.{piece_of, pieces_in, take_mark}
use Rattle.gate_sim.specs.Inner.Plans.{place_of, IsPlaced}
use Rattle.gate_sim.specs.Inner.Slots.{values_of, word_lane}
use Rattle.gate_sim.specs.Inner.Takes.{AreTakes}
use Rattle.gate_sim.proofs.Fields.{state_start}
use Rattle.gate_sim.proofs.Placing.{to_lists, lane_over, grows_over, same_over, idle_over, given_over, taken_over}
use Rattle.gate_sim.proofs.Idle.{idle_started, given_fewer, given_all}
use Rattle.gate_sim.proofs.Taking.{bit_placed}
use Rattle.gate_sim.proofs.packed.Packed.take_states.Goals as goal

-- the lists behind the slices: nodes, lanes (deref), places (deref-2), takes (deref-3), fixed (deref-4), start (deref_mut)
pub take_states-requires-clause-takes : goal.take_states-requires-clause-takes
take_states-requires-clause-takes c =
    to_lists (λ nodes lanes places takes start. AreTakes nodes (length start) lanes places takes) _ _ _ _ _ _ _ _ _ _
    c.nodes.ensures.value c.deref.ensures.value c.deref-2.ensures.value c.deref-3.ensures.value c.deref_mut.ensures.value
    (subst (λ n. AreTakes c.self.inside.net.nodes n c.self.inside.lanes.items c.self.inside.places.items c.self.inside.takes.items) (sym c.self.invariant.start_long) c.self.invariant.are_takes)

pub take_states-requires-clause-placed : goal.take_states-requires-clause-placed
take_states-requires-clause-placed c =
    to_lists (λ nodes lanes places takes start. (k : ℕ) → k < length nodes → IsPlaced (length start) lanes places k) _ _ _ _ _ _ _ _ _ _
    c.nodes.ensures.value c.deref.ensures.value c.deref-2.ensures.value c.deref-3.ensures.value c.deref_mut.ensures.value
    (subst (λ n. (k : ℕ) → k < length c.self.inside.net.nodes → IsPlaced n c.self.inside.lanes.items c.self.inside.places.items k) (sym c.self.invariant.start_long) c.self.invariant.is_plan.placed)

pub take_states-requires-clause-given : goal.take_states-requires-clause-given
take_states-requires-clause-given c =
    taken_over _ _ _ _ _ _ _ _ _ _ _ _
    (sym c.nodes.ensures.value) (sym c.deref-2.ensures.value) (sym c.deref-3.ensures.value) (sym c.deref_mut-3.ensures.value) (sym c.deref-4.ensures.value) (sym c.deref_mut.ensures.value) c.self.invariant.taken

pub invariant_of-self : goal.invariant_of-self
invariant_of-self c =
    let cut = take_at c.take_states.new.start _ _ (omega arith) in
    let marked = take_at c.take_states.new.marks _ _ (omega arith) in
    let dues = take_at c.take_states.new.due _ _ (omega arith) in
    let marks = c.self.invariant.marks_long in
    let due = c.self.invariant.due_long in
    let start = c.self.invariant.start_long in
    let grows = grows_over c.self.inside.marks.items _ c.take_states.new.marks c.deref_mut-2.ensures.value c.take_states.ensures.grows in
    let same = same_over c.self.inside.start.items _ c.take_states.new.start c.take_states.new.marks c.deref_mut.ensures.value c.take_states.ensures.same in
    record {
      is_plan = c.self.invariant.is_plan;
      are_takes = c.self.invariant.are_takes;
      slots_long = c.self.invariant.slots_long;
      start_long = ap length cut ∙ omega arith;
      fixed_long = c.self.invariant.fixed_long;
      stored = c.self.invariant.stored;
      readers = c.self.invariant.readers;
      marks_long = ap length marked ∙ omega arith;
      due_long = ap length dues ∙ omega arith;
      idle = λ small.
          idle_over _ _ _ _ _ _ _ _ _ _ _ _ _ _ refl refl refl (sym cut) refl refl (sym marked)
          (idle_started c.self.inside.net.nodes c.self.inside.net.blocks c.self.inside.ops.items c.self.inside.lanes.items c.self.inside.places.items c.self.inside.start.items c.take_states.new.start c.self.inside.slots.items c.self.inside.marks.items c.take_states.new.marks c.self.invariant.is_plan grows same (c.self.invariant.idle small));
      still = c.self.invariant.still;
      given =
          given_over _ _ _ _ _ _ _ _ _ _ _ _ _ _ refl refl refl refl (sym marked) refl refl
          (given_fewer c.self.inside.net.nodes c.self.inside.places.items c.self.inside.takes.items (take_mark (pieces_in (length c.self.inside.ops.items)) c.self.inside.marks.items) (take_mark (pieces_in (length c.self.inside.ops.items)) c.take_states.new.marks) (λ k i. value_in (values_of c.self.inside.places.items c.self.inside.slots.items) i) c.self.inside.fixed.items (λ t. grows (pieces_in (length c.self.inside.ops.items) + piece_of t)) c.self.invariant.given);
      taken =
          taken_over _ _ _ _ _ _ _ _ _ _ _ _ refl refl refl (sym dues) refl (sym cut)
          (given_all c.self.inside.net.nodes c.self.inside.places.items c.self.inside.takes.items (λ t. value_in c.take_states.new.due (piece_of t)) (λ k i. word_lane c.self.inside.fixed.items (place_of c.self.inside.places.items k)) c.take_states.new.start
          (λ k i at. lane_over c.self.inside.places.items _ c.take_states.new.start c.self.inside.fixed.items _ k c.deref-2.ensures.value c.deref-4.ensures.value (c.take_states.ensures.flips k i (subst (λ l. slice_get l k ≡ Some (Flip i)) (sym c.nodes.ensures.value) at))));
    }

pub returns-clause-state : goal.returns-clause-state
returns-clause-state c = state_start _ _ _ c.self.view_is

pub returns-clause-pins : goal.returns-clause-pins
returns-clause-pins c k at =
    let there = subst (λ s. slice_get s.net.nodes k ≡ Some Pin) (sym c.self.view_is) at in
    let inside = slice_get_within c.self.inside.net.nodes k Pin there in
    let long = c.self.invariant.is_plan.places_long in
    let cut = take_at c.take_states.new.start _ _ (omega arith) in
    let here = subst (λ l. slice_get l k ≡ Some Pin) (sym c.nodes.ensures.value) there in
    bit_placed c.self.inside.places.items _ k (omega arith)
    ∙ ap (λ w. word_lane w (place_of c.self.inside.places.items k)) cut
    ∙ lane_over _ _ c.take_states.new.start _ _ k c.deref-2.ensures.value c.deref_mut.ensures.value (c.take_states.ensures.pins k here)
    ∙ sym (bit_placed c.self.inside.places.items c.self.inside.start.items k (omega arith))
    ∙ ap (λ s. value_in s.start k) c.self.view_is

pub returns-clause-flips : goal.returns-clause-flips
returns-clause-flips c k i at =
    let there = subst (λ s. slice_get s.net.nodes k ≡ Some (Flip i)) (sym c.self.view_is) at in
    let inside = slice_get_within c.self.inside.net.nodes k (Flip i) there in
    let long = c.self.invariant.is_plan.places_long in
    let cut = take_at c.take_states.new.start _ _ (omega arith) in
    let here = subst (λ l. slice_get l k ≡ Some (Flip i)) (sym c.nodes.ensures.value) there in
    bit_placed c.self.inside.places.items _ k (omega arith)
    ∙ ap (λ w. word_lane w (place_of c.self.inside.places.items k)) cut
    ∙ lane_over _ _ c.take_states.new.start _ _ k c.deref-2.ensures.value c.deref-4.ensures.value (c.take_states.ensures.flips k i here)
    ∙ sym (bit_placed c.self.inside.places.items c.self.inside.fixed.items k (omega arith))
    ∙ ap (λ s. value_in s.fixed k) c.self.view_is

use Rattle.std.proofs.Common.{◌≡◌, ◌<◌, ◌+◌, ℕ, Some, length, set, refl, arith, sym, subst, ap, ◌∙◌}
use Rattle.std.proofs.lemmas.List.{take_at}
use Rattle.std.specs.Prelude.{slice_get}
use Rattle.std.proofs.lemmas.Option.{slice_get_within}
use Rattle.netlist.specs.declared.node.Node.TheVariants.{Pin}
use Rattle.netlist.specs.Present.{value_in}
use Rattle.gate_sim.specs.Inner.Pieces.{piece_of, pieces_in, take_mark}
use Rattle.gate_sim.specs.Inner.Plans.{place_of}
use Rattle.gate_sim.specs.Inner.Slots.{ArePlacedIn, bits_of, values_of}
use Rattle.gate_sim.proofs.Fields.{state_start}
use Rattle.gate_sim.proofs.Placing.{placed_to, apart_in, bits_over, grows_over, same_set, idle_over, given_over, taken_over}
use Rattle.gate_sim.proofs.Idle.{idle_started, given_fewer, taken_set}
use Rattle.gate_sim.proofs.Taking.{long_bits}
use Rattle.gate_sim.proofs.packed.Packed.set.Goals as goal

pub set_bit-requires-clause-node : goal.set_bit-requires-clause-node
set_bit-requires-clause-node c =
    let less = slice_get_within c.self.inside.net.nodes c.args.node Pin (subst (λ s. slice_get s.net.nodes c.args.node ≡ Some Pin) (sym c.self.view_is) c.requires) in
    let long = c.self.invariant.is_plan.places_long in
    let same = ap length c.deref.ensures.value in
    omega arith

pub set_bit-requires-clause-places : goal.set_bit-requires-clause-places
set_bit-requires-clause-places c =
    subst (ArePlacedIn (length c.deref_mut.result.now)) (sym c.deref.ensures.value)
    (placed_to _ _ _ _ _ (length c.deref_mut.result.now) c.self.invariant.is_plan (ap length c.deref_mut.ensures.value ∙ c.self.invariant.start_long))

pub set_bit-requires-clause-apart : goal.set_bit-requires-clause-apart
set_bit-requires-clause-apart c =
    subst (λ p. (i j : ℕ) → i < length p → j < length p → (place_of p i).slot ≡ (place_of p j).slot → (place_of p i).at ≡ (place_of p j).at → i ≡ j) (sym c.deref.ensures.value)
    (apart_in _ _ _ _ _ c.self.invariant.is_plan)

pub mark_node-requires-clause-node : goal.mark_node-requires-clause-node
mark_node-requires-clause-node c =
    let less = slice_get_within c.self.inside.net.nodes c.args.node Pin (subst (λ s. slice_get s.net.nodes c.args.node ≡ Some Pin) (sym c.self.view_is) c.requires) in
    let long = c.self.invariant.is_plan.places_long in
    let same = ap length c.deref-2.ensures.value in
    omega arith

pub mark_node-requires-clause-piece : goal.mark_node-requires-clause-piece
mark_node-requires-clause-piece c =
    let less = slice_get_within c.self.inside.net.nodes c.args.node Pin (subst (λ s. slice_get s.net.nodes c.args.node ≡ Some Pin) (sym c.self.view_is) c.requires) in
    let is = c.self.invariant.is_plan.placed c.args.node less in
    let slot = is.slot in
    let long = c.self.invariant.marks_long in
    let same = ap length c.deref_mut-2.ensures.value in
    let here = ap (λ p. piece_of (place_of p c.args.node).slot) c.deref-2.ensures.value in
    omega arith

pub invariant_of-self : goal.invariant_of-self
invariant_of-self c =
    let cut = take_at c.set_bit.new.words _ _ (omega arith) in
    let marked = take_at c.mark_node.new.marks _ _ (omega arith) in
    let pin = subst (λ s. slice_get s.net.nodes c.args.node ≡ Some Pin) (sym c.self.view_is) c.requires in
    let marks = c.self.invariant.marks_long in
    let start = c.self.invariant.start_long in
    let grows = grows_over c.self.inside.marks.items _ c.mark_node.new.marks c.deref_mut-2.ensures.value c.mark_node.ensures.grows in
    let same = same_set c.self.inside.places.items _ _ c.self.inside.start.items _ c.set_bit.new.words c.mark_node.new.marks c.args.node c.deref.ensures.value c.deref-2.ensures.value c.deref_mut.ensures.value c.set_bit.ensures.others c.mark_node.ensures.on in
    let bits = bits_over c.self.inside.places.items _ c.self.inside.start.items _ c.set_bit.new.words c.args.node c.args.bit c.deref.ensures.value c.deref_mut.ensures.value c.set_bit.ensures.bits in
    record {
      is_plan = c.self.invariant.is_plan;
      are_takes = c.self.invariant.are_takes;
      slots_long = c.self.invariant.slots_long;
      start_long = ap length cut ∙ omega arith;
      fixed_long = c.self.invariant.fixed_long;
      stored = c.self.invariant.stored;
      readers = c.self.invariant.readers;
      marks_long = ap length marked ∙ omega arith;
      due_long = c.self.invariant.due_long;
      idle = λ small.
          idle_over _ _ _ _ _ _ _ _ _ _ _ _ _ _ refl refl refl (sym cut) refl refl (sym marked)
          (idle_started c.self.inside.net.nodes c.self.inside.net.blocks c.self.inside.ops.items c.self.inside.lanes.items c.self.inside.places.items c.self.inside.start.items c.set_bit.new.words c.self.inside.slots.items c.self.inside.marks.items c.mark_node.new.marks c.self.invariant.is_plan grows same (c.self.invariant.idle small));
      still = c.self.invariant.still;
      given =
          given_over _ _ _ _ _ _ _ _ _ _ _ _ _ _ refl refl refl refl (sym marked) refl refl
          (given_fewer c.self.inside.net.nodes c.self.inside.places.items c.self.inside.takes.items (take_mark (pieces_in (length c.self.inside.ops.items)) c.self.inside.marks.items) (take_mark (pieces_in (length c.self.inside.ops.items)) c.mark_node.new.marks) (λ k i. value_in (values_of c.self.inside.places.items c.self.inside.slots.items) i) c.self.inside.fixed.items (λ t. grows (pieces_in (length c.self.inside.ops.items) + piece_of t)) c.self.invariant.given);
      taken =
          taken_over _ _ _ _ _ _ _ _ _ _ _ _ refl refl refl refl refl (sym cut)
          (taken_set c.self.inside.net.nodes c.self.inside.places.items c.self.inside.takes.items _ c.self.inside.fixed.items c.self.inside.start.items c.set_bit.new.words c.args.node c.args.bit c.self.invariant.is_plan.places_long pin bits c.self.invariant.taken);
    }

pub returns-clause-state : goal.returns-clause-state
returns-clause-state c = state_start _ _ _ c.self.view_is

pub returns-clause-start : goal.returns-clause-start
returns-clause-start c =
    let cut = take_at c.set_bit.new.words _ _ (omega arith) in
    ap (bits_of c.self.inside.places.items) cut
    ∙ bits_over _ _ _ _ _ c.args.node c.args.bit c.deref.ensures.value c.deref_mut.ensures.value c.set_bit.ensures.bits
    ∙ ap (λ s. set s.start c.args.node c.args.bit) c.self.view_is

pub returns-clause-inside : goal.returns-clause-inside
returns-clause-inside c =
    let less = slice_get_within c.self.inside.net.nodes c.args.node Pin (subst (λ s. slice_get s.net.nodes c.args.node ≡ Some Pin) (sym c.self.view_is) c.requires) in
    let long = c.self.invariant.is_plan.places_long in
    let bits = long_bits c.self.inside.places.items c.self.inside.start.items in
    subst (λ s. c.args.node < length s.start) c.self.view_is (omega arith)

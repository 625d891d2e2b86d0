use Rattle.std.proofs.Common.{◌≤◌, ◌+◌, length, arith, refl, sym, subst, ap, ◌∙◌}
use Rattle.std.specs.List.{count_by}
use Rattle.std.proofs.lemmas.List.{take_at}
use Rattle.netlist.specs.Present.{IsRow, value_in}
use Rattle.netlist.specs.Touched.{is_other}
use Rattle.netlist.specs.Words.{word_at}
use Rattle.netlist.specs.Inner.Taken.{is_taken}
use Rattle.gate_sim.specs.Inner.Pieces.{AreStill}
use Rattle.gate_sim.specs.Inner.Slots.{AreStored, bits_of, values_of}
use Rattle.gate_sim.proofs.Fields.{state_values, row_of, count_of}
use Rattle.gate_sim.proofs.Placing.{over_lists, idle_over, given_over}
use Rattle.gate_sim.proofs.packed.Packed.follow.Goals as goal

-- the lists behind the slices: nodes, blocks, operations (deref), lanes (deref-2), places (deref-3), takes (deref-4), start (deref-9), and the
-- slots and the marks as they come back (take_at)
pub invariant_of-self : goal.invariant_of-self
invariant_of-self g c =
    let cut = take_at c.follow_all.new.slots _ _ (omega arith) in
    let marked = take_at c.follow_all.new.marks _ _ (omega arith) in
    let old = c.self.invariant.marks_long in
    record {
      is_plan = c.self.invariant.is_plan;
      are_takes = c.self.invariant.are_takes;
      slots_long = ap length cut ∙ omega arith;
      start_long = c.self.invariant.start_long;
      fixed_long = c.self.invariant.fixed_long;
      stored =
          over_lists (λ nodes blocks lanes places slots. AreStored (length nodes) lanes (value_in (values_of places slots)) slots) _ _ _ _ _ _ _ _ _ _
          c.nodes-nodes.ensures.value c.blocks-2.ensures.value c.deref-2.ensures.value c.deref-3.ensures.value (sym cut) c.follow_all.ensures.stored;
      readers = c.self.invariant.readers;
      marks_long = ap length marked ∙ omega arith;
      due_long = c.self.invariant.due_long;
      idle = λ small.
          idle_over _ _ _ _ _ _ _ _ _ _ _ _ _ _
          c.nodes-nodes.ensures.value c.deref-2.ensures.value c.deref-3.ensures.value c.deref-9.ensures.value c.deref.ensures.value (sym cut) (sym marked) (c.follow_all.ensures.idle small);
      still = λ small. subst AreStill (sym cut) (c.follow_all.ensures.still small);
      given =
          given_over _ _ _ _ _ _ _ _ _ _ _ _ _ _
          c.nodes-nodes.ensures.value c.deref-3.ensures.value c.deref-4.ensures.value (ap length c.deref.ensures.value) (sym marked) (sym cut) refl
          (c.follow_all.ensures.given c.self.inside.fixed.items
          (given_over _ _ _ _ _ _ _ _ _ _ _ _ _ _
          (sym c.nodes-nodes.ensures.value) (sym c.deref-3.ensures.value) (sym c.deref-4.ensures.value) (ap length (sym c.deref.ensures.value)) (sym c.deref_mut-2.ensures.value) (sym c.deref_mut.ensures.value) refl c.self.invariant.given));
      taken = c.self.invariant.taken;
    }

pub returns-clause-state : goal.returns-clause-state
returns-clause-state g c = state_values _ _ _ c.self.view_is

pub returns-clause-row : goal.returns-clause-row
returns-clause-row g c =
    let cut = take_at c.follow_all.new.slots _ _ (omega arith) in
    row_of _ _ (word_at c.args.memory.now) _ c.self.view_is
    (over_lists (λ nodes blocks lanes places slots. IsRow nodes blocks (value_in (bits_of places c.self.inside.start.items)) (word_at c.args.memory.now) (value_in (values_of places slots))) _ _ _ _ _ _ _ _ _ _
    c.nodes-nodes.ensures.value c.blocks-2.ensures.value c.deref-2.ensures.value c.deref-3.ensures.value (sym cut)
    (subst (λ x. IsRow c.nodes-nodes.result.now c.blocks-2.result.now (value_in (bits_of c.deref-3.result.now x)) (word_at c.args.memory.now) (value_in (values_of c.deref-3.result.now c.follow_all.new.slots))) c.deref-9.ensures.value c.follow_all.ensures.row))

pub returns-clause-counted : goal.returns-clause-counted
returns-clause-counted g c =
    let cut = take_at c.follow_all.new.slots _ _ (omega arith) in
    count_of _ _ c.follow_all.new.steps c.args.steps.now c.args.whole (value_in c.args.written.now) _ c.self.view_is
    (over_lists (λ nodes blocks lanes places slots. c.follow_all.new.steps ≤ c.args.steps.now + count_by (is_taken c.args.whole blocks (λ k. is_other (value_in (values_of places c.self.inside.slots.items) k) (value_in (values_of places slots) k)) (value_in c.args.written.now)) nodes) _ _ _ _ _ _ _ _ _ _
    c.nodes-nodes.ensures.value c.blocks-2.ensures.value c.deref-2.ensures.value c.deref-3.ensures.value (sym cut)
    (subst (λ x. c.follow_all.new.steps ≤ c.args.steps.now + count_by (is_taken c.args.whole c.blocks-2.result.now (λ k. is_other (value_in (values_of c.deref-3.result.now x) k) (value_in (values_of c.deref-3.result.now c.follow_all.new.slots) k)) (value_in c.args.written.now)) c.nodes-nodes.result.now) c.deref_mut.ensures.value c.follow_all.ensures.counted))

use Rattle.std.proofs.Common.{◌≡◌, ◌+◌, ℕ, length, ap, arith, ◌∙◌}
use Rattle.std.specs.Prelude.{slice_index}
use Rattle.std.proofs.lemmas.List.{length-replicate}
use Rattle.netlist.proofs.Pushed.{zero_row}
use Rattle.gate_sim.specs.Inner.Pieces.{piece_of, pieces_in}
use Rattle.gate_sim.specs.Inner.Slots.{slot_at}
use Rattle.gate_sim.proofs.Blank.{all_on, blank_slot}
use Rattle.gate_sim.proofs.Idle.{given_none, idle_on}
use Rattle.gate_sim.proofs.Taking.{bits_none, stored_none}
use Rattle.gate_sim.proofs.packed.Packed.reset.Goals as goal

pub invariant_of-self : goal.invariant_of-self
invariant_of-self c =
    let was = c.self.invariant in
    let p = c.self.inside in
    let n = pieces_in (length p.ops.items) in
    let slots = c.fill.ensures.items (λ y e. e) in
    let start = c.fill-2.ensures.items (λ y e. e) in
    let fixed = c.fill-3.ensures.items (λ y e. e) in
    let marks = c.fill-4.ensures.items (λ y e. e) in
    let due = c.fill-5.ensures.items (λ y e. e) in
    let blank : (q : ℕ) → slot_at c.fill.new.self.items q ≡ record { value = 0; change = 0 } = λ q. ap (λ s. slot_at s q) slots ∙ blank_slot _ q in
    let marks_long = ap length marks ∙ length-replicate _ _ ∙ p.marks.ok.0 ∙ was.marks_long in
    let due_long = ap length due ∙ length-replicate _ _ ∙ p.due.ok.0 ∙ was.due_long in
    record {
      is_plan = was.is_plan;
      are_takes = was.are_takes;
      slots_long = ap length slots ∙ length-replicate _ _ ∙ p.slots.ok.0 ∙ was.slots_long;
      start_long = ap length start ∙ length-replicate _ _ ∙ p.start.ok.0 ∙ was.start_long;
      fixed_long = ap length fixed ∙ length-replicate _ _ ∙ p.fixed.ok.0 ∙ was.fixed_long;
      stored = stored_none _ _ _ _ blank;
      readers = was.readers;
      marks_long = marks_long;
      due_long = due_long;
      idle = λ small. idle_on _ _ _ _ _ _ (λ q. ap (λ s. s.change) (blank q)) (λ m less. all_on c.fill-4.new.self.items _ m marks (omega arith));
      still = λ small q. ap (λ s. s.change) (blank q);
      given = given_none _ _ _ _ _ _ (λ t less. all_on c.fill-4.new.self.items _ (n + piece_of t) marks (omega arith));
      taken = given_none _ _ _ _ _ _ (λ t less. all_on c.fill-5.new.self.items _ (piece_of t) due (omega arith));
    }

pub returns-clause-start : goal.returns-clause-start
returns-clause-start c = bits_none _ _ (λ q. ap (λ l. slice_index l q) (c.fill-2.ensures.items (λ y e. e)) ∙ zero_row _ q)

pub returns-clause-fixed : goal.returns-clause-fixed
returns-clause-fixed c = bits_none _ _ (λ q. ap (λ l. slice_index l q) (c.fill-3.ensures.items (λ y e. e)) ∙ zero_row _ q)

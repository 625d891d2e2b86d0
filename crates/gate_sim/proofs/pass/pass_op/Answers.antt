use Rattle.std.proofs.Common.{ℕ, ◌+◌, ◌-◌, ◌<◌, length, arith, refl, sym, subst, ap, ◌∙◌}
use Rattle.word16.specs.Words.{has_bit}
use Rattle.netlist.specs.Present.{value_in}
use Rattle.netlist.specs.Touched.{is_other}
use Rattle.netlist.specs.Words.{word_at}
use Rattle.gate_sim.specs.Inner.Plans.{IsLane}
use Rattle.gate_sim.specs.Inner.Slots.{bits_of, HasValues}
use Rattle.gate_sim.proofs.Taking.{held_has}
use Rattle.gate_sim.proofs.Passing.{held_right, zeros_right, gates_via, gates_counted_via, lone_via, lone_counted, spread_right, move_right, read_via, read_counted, none_counted, lone_inputs, read_address}
use Rattle.gate_sim.proofs.pass.pass_op.Goals as goal

pub pass_lone-requires-clause-slot_a : goal.pass_lone-requires-clause-slot_a
pass_lone-requires-clause-slot_a g c =
    let right = subst (λ o. (l : ℕ) → l < 16 → IsLane c.args.nodes.now c.args.blocks.now c.args.lanes.now c.args.places.now c.args.q l o) c.in-Lone.is c.requires.right in
    let inputs = lone_inputs c.args.nodes.now c.args.lanes.now c.args.places.now c.args.q c.in-Lone.a c.in-Lone.b (right 0 (omega arith)).0 in
    let is = inputs.0 in
    omega arith

pub pass_lone-requires-clause-lane_a : goal.pass_lone-requires-clause-lane_a
pass_lone-requires-clause-lane_a g c =
    let right = subst (λ o. (l : ℕ) → l < 16 → IsLane c.args.nodes.now c.args.blocks.now c.args.lanes.now c.args.places.now c.args.q l o) c.in-Lone.is c.requires.right in
    let inputs = lone_inputs c.args.nodes.now c.args.lanes.now c.args.places.now c.args.q c.in-Lone.a c.in-Lone.b (right 0 (omega arith)).0 in
    let is = inputs.1 in
    omega arith

pub pass_lone-requires-clause-slot_b : goal.pass_lone-requires-clause-slot_b
pass_lone-requires-clause-slot_b g c =
    let right = subst (λ o. (l : ℕ) → l < 16 → IsLane c.args.nodes.now c.args.blocks.now c.args.lanes.now c.args.places.now c.args.q l o) c.in-Lone.is c.requires.right in
    let inputs = lone_inputs c.args.nodes.now c.args.lanes.now c.args.places.now c.args.q c.in-Lone.a c.in-Lone.b (right 0 (omega arith)).0 in
    let is = inputs.2 in
    omega arith

pub pass_lone-requires-clause-lane_b : goal.pass_lone-requires-clause-lane_b
pass_lone-requires-clause-lane_b g c =
    let right = subst (λ o. (l : ℕ) → l < 16 → IsLane c.args.nodes.now c.args.blocks.now c.args.lanes.now c.args.places.now c.args.q l o) c.in-Lone.is c.requires.right in
    let inputs = lone_inputs c.args.nodes.now c.args.lanes.now c.args.places.now c.args.q c.in-Lone.a c.in-Lone.b (right 0 (omega arith)).0 in
    let is = inputs.3 in
    omega arith

pub pass_lone-requires-clause-mask_a : goal.pass_lone-requires-clause-mask_a
pass_lone-requires-clause-mask_a g c =
    let right = subst (λ o. (l : ℕ) → l < 16 → IsLane c.args.nodes.now c.args.blocks.now c.args.lanes.now c.args.places.now c.args.q l o) c.in-Lone.is c.requires.right in
    (right 0 (omega arith)).1

pub pass_lone-requires-clause-mask_b : goal.pass_lone-requires-clause-mask_b
pass_lone-requires-clause-mask_b g c =
    let right = subst (λ o. (l : ℕ) → l < 16 → IsLane c.args.nodes.now c.args.blocks.now c.args.lanes.now c.args.places.now c.args.q l o) c.in-Lone.is c.requires.right in
    (right 0 (omega arith)).2

pub pass_read-requires-clause-address : goal.pass_read-requires-clause-address
pass_read-requires-clause-address g c =
    let right = subst (λ o. (l : ℕ) → l < 16 → IsLane c.args.nodes.now c.args.blocks.now c.args.lanes.now c.args.places.now c.args.q l o) c.in-Read.is c.requires.right in
    read_address c.args.nodes.now c.args.blocks.now (length c.args.places.now) c.in-Read.block c.requires.ordered c.requires.places (right 0 (omega arith)).block

pub pass_read-requires-clause-block : goal.pass_read-requires-clause-block
pass_read-requires-clause-block g c =
    let right = subst (λ o. (l : ℕ) → l < 16 → IsLane c.args.nodes.now c.args.blocks.now c.args.lanes.now c.args.places.now c.args.q l o) c.in-Read.is c.requires.right in
    (right 0 (omega arith)).block

pub pass_read-requires-clause-side : goal.pass_read-requires-clause-side
pass_read-requires-clause-side g c =
    let right = subst (λ o. (l : ℕ) → l < 16 → IsLane c.args.nodes.now c.args.blocks.now c.args.lanes.now c.args.places.now c.args.q l o) c.in-Read.is c.requires.right in
    (right 0 (omega arith)).side

pub returns-in-Held-clause-passes : goal.returns-in-Held-clause-passes
returns-in-Held-clause-passes g c was row ev far =
    let here = c.slot_in-here.ensures in
    let right = subst (λ o. (l : ℕ) → l < 16 → IsLane c.args.nodes.now c.args.blocks.now c.args.lanes.now c.args.places.now c.args.q l o) c.in-Held.is c.requires.right in (
      held_right c.args.nodes.now c.args.blocks.now c.args.lanes.now c.args.places.now (value_in (bits_of c.args.places.now c.args.start.now)) (word_at c.args.memory.now) (value_in c.args.written.now) c.args.whole was row c.args.q c.args.slots.now c.requires.ordered ev far c.requires.place c.pass_held.result (λ l less. (right l less).held) (subst (HasValues (length c.args.nodes.now) c.args.lanes.now (value_in (bits_of c.args.places.now c.args.start.now)) c.args.q) (sym c.pass_held.ensures.value) (held_has c.args.nodes.now c.args.lanes.now c.args.places.now c.args.start.now c.args.q c.requires.places right)) (λ l. c.pass_held.ensures.change l ∙ ap (λ s. is_other (has_bit s.value l) (has_bit c.pass_held.result.value l)) here),
      none_counted c.args.nodes.now c.args.blocks.now c.args.lanes.now c.args.places.now (value_in (bits_of c.args.places.now c.args.start.now)) (word_at c.args.memory.now) (value_in c.args.written.now) c.args.whole was row c.args.q c.args.slots.now c.requires.ordered ev far c.requires.place _ _ refl,
    )

pub returns-in-Zeros-clause-passes : goal.returns-in-Zeros-clause-passes
returns-in-Zeros-clause-passes g c was row ev far =
    let here = c.slot_in-here.ensures in
    let right = subst (λ o. (l : ℕ) → l < 16 → IsLane c.args.nodes.now c.args.blocks.now c.args.lanes.now c.args.places.now c.args.q l o) c.in-Zeros.is c.requires.right in (
      zeros_right c.args.nodes.now c.args.blocks.now c.args.lanes.now c.args.places.now (value_in (bits_of c.args.places.now c.args.start.now)) (word_at c.args.memory.now) (value_in c.args.written.now) c.args.whole was row c.args.q c.args.slots.now c.requires.ordered ev far c.requires.place c.pass_zeros.result right c.pass_zeros.ensures.value (λ l. c.pass_zeros.ensures.change l ∙ ap (λ s. is_other (has_bit s.value l) (has_bit c.pass_zeros.result.value l)) here),
      none_counted c.args.nodes.now c.args.blocks.now c.args.lanes.now c.args.places.now (value_in (bits_of c.args.places.now c.args.start.now)) (word_at c.args.memory.now) (value_in c.args.written.now) c.args.whole was row c.args.q c.args.slots.now c.requires.ordered ev far c.requires.place _ _ refl,
    )

pub returns-in-Gates-clause-passes : goal.returns-in-Gates-clause-passes
returns-in-Gates-clause-passes g c was row ev far =
    let here = c.slot_in-here.ensures in
    let right = subst (λ o. (l : ℕ) → l < 16 → IsLane c.args.nodes.now c.args.blocks.now c.args.lanes.now c.args.places.now c.args.q l o) c.in-Gates.is c.requires.right in (
      gates_via c.args.nodes.now c.args.blocks.now c.args.lanes.now c.args.places.now (value_in (bits_of c.args.places.now c.args.start.now)) (word_at c.args.memory.now) (value_in c.args.written.now) c.args.whole was row c.args.q c.args.slots.now c.requires.ordered ev far c.requires.place c.in-Gates.a c.in-Gates.b c.in-Gates.mask right c.pass_gates.result c.slot_at-first.result c.slot_at-second.result c.slot_in-here.result c.slot_at-first.ensures c.slot_at-second.ensures here c.pass_gates.ensures.value c.pass_gates.ensures.change,
      gates_counted_via c.args.nodes.now c.args.blocks.now c.args.lanes.now c.args.places.now (value_in (bits_of c.args.places.now c.args.start.now)) (word_at c.args.memory.now) (value_in c.args.written.now) c.args.whole was row c.args.q c.args.slots.now c.requires.ordered ev far c.requires.place c.in-Gates.a c.in-Gates.b c.in-Gates.mask _ _ c.slot_at-first.result c.slot_at-second.result right c.slot_at-first.ensures c.slot_at-second.ensures c.pass_gates.ensures.counted,
    )

pub returns-in-Lone-clause-passes : goal.returns-in-Lone-clause-passes
returns-in-Lone-clause-passes g c was row ev far =
    let here = c.slot_in-here.ensures in
    let right = subst (λ o. (l : ℕ) → l < 16 → IsLane c.args.nodes.now c.args.blocks.now c.args.lanes.now c.args.places.now c.args.q l o) c.in-Lone.is c.requires.right in (
      lone_via c.args.nodes.now c.args.blocks.now c.args.lanes.now c.args.places.now (value_in (bits_of c.args.places.now c.args.start.now)) (word_at c.args.memory.now) (value_in c.args.written.now) c.args.whole was row c.args.q c.args.slots.now c.requires.ordered ev far c.requires.place c.in-Lone.a c.in-Lone.b (λ l less. (right l less).0) c.pass_lone.result c.slot_in-here.result here c.pass_lone.ensures.value c.pass_lone.ensures.change,
      lone_counted c.args.nodes.now c.args.blocks.now c.args.lanes.now c.args.places.now (value_in (bits_of c.args.places.now c.args.start.now)) (word_at c.args.memory.now) (value_in c.args.written.now) c.args.whole was row c.args.q c.args.slots.now c.requires.ordered ev far c.requires.place c.in-Lone.a c.in-Lone.b _ _ (λ l less. (right l less).0) c.pass_lone.ensures.counted,
    )

pub returns-in-Spread-clause-passes : goal.returns-in-Spread-clause-passes
returns-in-Spread-clause-passes g c was row ev far =
    let here = c.slot_in-here.ensures in
    let right = subst (λ o. (l : ℕ) → l < 16 → IsLane c.args.nodes.now c.args.blocks.now c.args.lanes.now c.args.places.now c.args.q l o) c.in-Spread.is c.requires.right in (
      spread_right c.args.nodes.now c.args.blocks.now c.args.lanes.now c.args.places.now (value_in (bits_of c.args.places.now c.args.start.now)) (word_at c.args.memory.now) (value_in c.args.written.now) c.args.whole was row c.args.q c.args.slots.now c.requires.ordered ev far c.requires.place c.in-Spread.a right c.spread.result (λ l less. c.spread.ensures.value l less ∙ ap (λ s. has_bit s.value c.in-Spread.a.at) c.slot_at-from.ensures) (λ l less. c.spread.ensures.change l less ∙ ap (λ s. has_bit s.change c.in-Spread.a.at) c.slot_at-from.ensures),
      none_counted c.args.nodes.now c.args.blocks.now c.args.lanes.now c.args.places.now (value_in (bits_of c.args.places.now c.args.start.now)) (word_at c.args.memory.now) (value_in c.args.written.now) c.args.whole was row c.args.q c.args.slots.now c.requires.ordered ev far c.requires.place _ _ refl,
    )

pub returns-in-Move-clause-passes : goal.returns-in-Move-clause-passes
returns-in-Move-clause-passes g c was row ev far =
    let here = c.slot_in-here.ensures in
    let right = subst (λ o. (l : ℕ) → l < 16 → IsLane c.args.nodes.now c.args.blocks.now c.args.lanes.now c.args.places.now c.args.q l o) c.in-Move.is c.requires.right in (
      move_right c.args.nodes.now c.args.blocks.now c.args.lanes.now c.args.places.now (value_in (bits_of c.args.places.now c.args.start.now)) (word_at c.args.memory.now) (value_in c.args.written.now) c.args.whole was row c.args.q c.args.slots.now c.requires.ordered ev far c.requires.place c.in-Move.below c.in-Move.a c.in-Move.up c.in-Move.down c.in-Move.mask right c.moved_slot.result (λ l less on le high. ((c.moved_slot.ensures.moved l less on le high).0 ∙ ap (λ s. has_bit s.value (l + c.in-Move.down - c.in-Move.up)) c.slot_at-over.ensures, (c.moved_slot.ensures.moved l less on le high).1 ∙ ap (λ s. has_bit s.change (l + c.in-Move.down - c.in-Move.up)) c.slot_at-over.ensures)) (λ l less off. ((c.moved_slot.ensures.kept l less off).0 ∙ ap (λ s. has_bit s.value l) c.slot_at-under.ensures, (c.moved_slot.ensures.kept l less off).1 ∙ ap (λ s. has_bit s.change l) c.slot_at-under.ensures)),
      none_counted c.args.nodes.now c.args.blocks.now c.args.lanes.now c.args.places.now (value_in (bits_of c.args.places.now c.args.start.now)) (word_at c.args.memory.now) (value_in c.args.written.now) c.args.whole was row c.args.q c.args.slots.now c.requires.ordered ev far c.requires.place _ _ refl,
    )

pub returns-in-Read-clause-passes : goal.returns-in-Read-clause-passes
returns-in-Read-clause-passes g c was row ev far =
    let here = c.slot_in-here.ensures in
    let right = subst (λ o. (l : ℕ) → l < 16 → IsLane c.args.nodes.now c.args.blocks.now c.args.lanes.now c.args.places.now c.args.q l o) c.in-Read.is c.requires.right in (
      read_via c.args.nodes.now c.args.blocks.now c.args.lanes.now c.args.places.now (value_in (bits_of c.args.places.now c.args.start.now)) (word_at c.args.memory.now) (value_in c.args.written.now) c.args.whole was row c.args.q c.args.slots.now c.requires.ordered ev far c.requires.place c.requires.placed c.in-Read.block c.in-Read.mask c.in-Read.address right c.pass_read.result c.slot_in-here.result here c.pass_read.ensures.value c.pass_read.ensures.change,
      read_counted c.args.nodes.now c.args.blocks.now c.args.lanes.now c.args.places.now (value_in (bits_of c.args.places.now c.args.start.now)) (word_at c.args.memory.now) (value_in c.args.written.now) c.args.whole was row c.args.q c.args.slots.now c.requires.ordered ev far c.requires.place c.requires.placed c.in-Read.block c.in-Read.mask _ _ c.in-Read.address right c.pass_read.ensures.counted,
    )

use Rattle.std.proofs.Common.{ℕ, ◌<◌, length, arith, refl, subst}
use Rattle.netlist.specs.Present.{value_in}
use Rattle.netlist.specs.Words.{word_at}
use Rattle.gate_sim.specs.Inner.Plans.{IsLane}
use Rattle.gate_sim.specs.Inner.Slots.{slot_at, bits_of}
use Rattle.gate_sim.proofs.Passing.{lone_via, lone_counted, lone_inputs}
use Rattle.gate_sim.proofs.pass.put_op.Goals as goal

pub put_lone-requires-clause-slot_a : goal.put_lone-requires-clause-slot_a
put_lone-requires-clause-slot_a g c =
    let right = subst (λ o. (l : ℕ) → l < 16 → IsLane c.args.nodes.now c.args.blocks.now c.args.lanes.now c.args.places.now c.args.q l o) c.in-Lone.is c.requires.right in
    let inputs = lone_inputs c.args.nodes.now c.args.lanes.now c.args.places.now c.args.q c.in-Lone.a c.in-Lone.b (right 0 (omega arith)).0 in
    let is = inputs.0 in
    omega arith

pub put_lone-requires-clause-lane_a : goal.put_lone-requires-clause-lane_a
put_lone-requires-clause-lane_a g c =
    let right = subst (λ o. (l : ℕ) → l < 16 → IsLane c.args.nodes.now c.args.blocks.now c.args.lanes.now c.args.places.now c.args.q l o) c.in-Lone.is c.requires.right in
    let inputs = lone_inputs c.args.nodes.now c.args.lanes.now c.args.places.now c.args.q c.in-Lone.a c.in-Lone.b (right 0 (omega arith)).0 in
    let is = inputs.1 in
    omega arith

pub put_lone-requires-clause-slot_b : goal.put_lone-requires-clause-slot_b
put_lone-requires-clause-slot_b g c =
    let right = subst (λ o. (l : ℕ) → l < 16 → IsLane c.args.nodes.now c.args.blocks.now c.args.lanes.now c.args.places.now c.args.q l o) c.in-Lone.is c.requires.right in
    let inputs = lone_inputs c.args.nodes.now c.args.lanes.now c.args.places.now c.args.q c.in-Lone.a c.in-Lone.b (right 0 (omega arith)).0 in
    let is = inputs.2 in
    omega arith

pub put_lone-requires-clause-lane_b : goal.put_lone-requires-clause-lane_b
put_lone-requires-clause-lane_b g c =
    let right = subst (λ o. (l : ℕ) → l < 16 → IsLane c.args.nodes.now c.args.blocks.now c.args.lanes.now c.args.places.now c.args.q l o) c.in-Lone.is c.requires.right in
    let inputs = lone_inputs c.args.nodes.now c.args.lanes.now c.args.places.now c.args.q c.in-Lone.a c.in-Lone.b (right 0 (omega arith)).0 in
    let is = inputs.3 in
    omega arith

pub returns-in-Lone-clause-passes : goal.returns-in-Lone-clause-passes
returns-in-Lone-clause-passes g c was row ev far =
    let right = subst (λ o. (l : ℕ) → l < 16 → IsLane c.args.nodes.now c.args.blocks.now c.args.lanes.now c.args.places.now c.args.q l o) c.in-Lone.is c.requires.right in (
      lone_via c.args.nodes.now c.args.blocks.now c.args.lanes.now c.args.places.now (value_in (bits_of c.args.places.now c.args.start.now)) (word_at c.args.memory.now) (value_in c.args.written.now) c.args.whole was row c.args.q c.args.slots.now c.requires.ordered ev far c.requires.place c.in-Lone.a c.in-Lone.b (λ l less. (right l less).0) c.put_lone.result (slot_at c.args.slots.now c.args.q) refl c.put_lone.ensures.value c.put_lone.ensures.change,
      lone_counted c.args.nodes.now c.args.blocks.now c.args.lanes.now c.args.places.now (value_in (bits_of c.args.places.now c.args.start.now)) (word_at c.args.memory.now) (value_in c.args.written.now) c.args.whole was row c.args.q c.args.slots.now c.requires.ordered ev far c.requires.place c.in-Lone.a c.in-Lone.b _ _ (λ l less. (right l less).0) c.put_lone.ensures.counted,
    )

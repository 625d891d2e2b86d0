use Rattle.std.proofs.Common.{◌≡◌, ℕ, ◌<◌, length, arith, subst}
use Rattle.netlist.specs.Present.{value_in}
use Rattle.netlist.specs.Words.{word_at}
use Rattle.gate_sim.specs.Inner.Plans.{IsPlaced}
use Rattle.gate_sim.specs.Inner.Slots.{bits_of, Passes}
use Rattle.gate_sim.proofs.Passing.{passes_none, passes_then, all_row, all_stored, all_counted}
use Rattle.gate_sim.proofs.pass.pass_all.Goals as goal

pub loop-s-init : goal.loop-s-init
loop-s-init g c = record {
  inside = omega arith;
  more = omega arith;
  passes = passes_none c.args.nodes.now c.args.blocks.now c.args.lanes.now c.args.places.now (value_in (bits_of c.args.places.now c.args.start.now)) (word_at c.args.memory.now) (value_in c.args.written.now) c.args.whole 0 c.args.slots.now c.args.steps.now;
}

pub loop-s-preserved : goal.loop-s-preserved
loop-s-preserved g c =
    let more = c.pass_stretch-from.ensures.more in
    let within = c.stretch_end-end.ensures.end in
    let short = c.pass_stretch-from.ensures.end in
    record {
      inside = omega arith;
      more = omega arith;
      passes = passes_then c.args.nodes.now c.args.blocks.now c.args.lanes.now c.args.places.now (value_in (bits_of c.args.places.now c.args.start.now)) (word_at c.args.memory.now) (value_in c.args.written.now) c.args.whole 0 c.loop-s.from c.pass_stretch-from.result c.args.slots.now c.loop-s.slots c.pass_stretch-from.new.slots c.args.steps.now c.loop-s.steps c.pass_stretch-from.new.steps c.loop-s.invariant.passes c.pass_stretch-from.ensures.passes;
    }

pub returns-clause-stored : goal.returns-clause-stored
returns-clause-stored g c =
    let long : length c.args.ops.now ≡ length c.pass_rest.new.slots = omega arith in
    let whole = passes_then c.args.nodes.now c.args.blocks.now c.args.lanes.now c.args.places.now (value_in (bits_of c.args.places.now c.args.start.now)) (word_at c.args.memory.now) (value_in c.args.written.now) c.args.whole 0 c.loop-s.from (length c.args.ops.now) c.args.slots.now c.loop-s.slots c.pass_rest.new.slots c.args.steps.now c.loop-s.steps c.pass_rest.new.steps c.loop-s.invariant.passes c.pass_rest.ensures.passes in
    let far = subst (λ m. Passes c.args.nodes.now c.args.blocks.now c.args.lanes.now c.args.places.now (value_in (bits_of c.args.places.now c.args.start.now)) (word_at c.args.memory.now) (value_in c.args.written.now) c.args.whole 0 m c.args.slots.now c.pass_rest.new.slots c.args.steps.now c.pass_rest.new.steps) long whole in
    let placed = subst (λ m. (k : ℕ) → k < length c.args.nodes.now → IsPlaced m c.args.lanes.now c.args.places.now k) long c.requires.plan.placed in
    all_stored c.args.nodes.now c.args.blocks.now c.args.lanes.now c.args.places.now (value_in (bits_of c.args.places.now c.args.start.now)) (word_at c.args.memory.now) (value_in c.args.written.now) c.args.whole c.args.slots.now c.pass_rest.new.slots c.args.steps.now c.pass_rest.new.steps c.requires.ordered c.requires.plan.places_long placed c.requires.stored c.requires.settled far

pub returns-clause-row : goal.returns-clause-row
returns-clause-row g c =
    let long : length c.args.ops.now ≡ length c.pass_rest.new.slots = omega arith in
    let whole = passes_then c.args.nodes.now c.args.blocks.now c.args.lanes.now c.args.places.now (value_in (bits_of c.args.places.now c.args.start.now)) (word_at c.args.memory.now) (value_in c.args.written.now) c.args.whole 0 c.loop-s.from (length c.args.ops.now) c.args.slots.now c.loop-s.slots c.pass_rest.new.slots c.args.steps.now c.loop-s.steps c.pass_rest.new.steps c.loop-s.invariant.passes c.pass_rest.ensures.passes in
    let far = subst (λ m. Passes c.args.nodes.now c.args.blocks.now c.args.lanes.now c.args.places.now (value_in (bits_of c.args.places.now c.args.start.now)) (word_at c.args.memory.now) (value_in c.args.written.now) c.args.whole 0 m c.args.slots.now c.pass_rest.new.slots c.args.steps.now c.pass_rest.new.steps) long whole in
    let placed = subst (λ m. (k : ℕ) → k < length c.args.nodes.now → IsPlaced m c.args.lanes.now c.args.places.now k) long c.requires.plan.placed in
    all_row c.args.nodes.now c.args.blocks.now c.args.lanes.now c.args.places.now (value_in (bits_of c.args.places.now c.args.start.now)) (word_at c.args.memory.now) (value_in c.args.written.now) c.args.whole c.args.slots.now c.pass_rest.new.slots c.args.steps.now c.pass_rest.new.steps c.requires.ordered c.requires.plan.places_long placed c.requires.stored c.requires.settled far

pub returns-clause-counted : goal.returns-clause-counted
returns-clause-counted g c =
    let long : length c.args.ops.now ≡ length c.pass_rest.new.slots = omega arith in
    let whole = passes_then c.args.nodes.now c.args.blocks.now c.args.lanes.now c.args.places.now (value_in (bits_of c.args.places.now c.args.start.now)) (word_at c.args.memory.now) (value_in c.args.written.now) c.args.whole 0 c.loop-s.from (length c.args.ops.now) c.args.slots.now c.loop-s.slots c.pass_rest.new.slots c.args.steps.now c.loop-s.steps c.pass_rest.new.steps c.loop-s.invariant.passes c.pass_rest.ensures.passes in
    let far = subst (λ m. Passes c.args.nodes.now c.args.blocks.now c.args.lanes.now c.args.places.now (value_in (bits_of c.args.places.now c.args.start.now)) (word_at c.args.memory.now) (value_in c.args.written.now) c.args.whole 0 m c.args.slots.now c.pass_rest.new.slots c.args.steps.now c.pass_rest.new.steps) long whole in
    let placed = subst (λ m. (k : ℕ) → k < length c.args.nodes.now → IsPlaced m c.args.lanes.now c.args.places.now k) long c.requires.plan.placed in
    all_counted c.args.nodes.now c.args.blocks.now c.args.lanes.now c.args.places.now (value_in (bits_of c.args.places.now c.args.start.now)) (word_at c.args.memory.now) (value_in c.args.written.now) c.args.whole c.args.slots.now c.pass_rest.new.slots c.args.steps.now c.pass_rest.new.steps c.requires.ordered c.requires.plan.places_long placed c.requires.stored c.requires.settled far

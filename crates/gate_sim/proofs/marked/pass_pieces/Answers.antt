use Rattle.std.proofs.Common.{◌≡◌, ◌<◌, ◌+◌, ◌*◌, ℕ, length, min, arith, subst, sym}
use Rattle.netlist.specs.Present.{value_in}
use Rattle.netlist.specs.Words.{word_at}
use Rattle.gate_sim.specs.Inner.Plans.{IsPlaced}
use Rattle.gate_sim.specs.Inner.Slots.{bits_of, values_of, ArePassed, Passes}
use Rattle.gate_sim.proofs.Passing.{passes_none, passes_then, all_row, all_counted, at_new}
use Rattle.gate_sim.proofs.Idle.{grows_then}
use Rattle.gate_sim.proofs.marked.pass_pieces.Goals as goal

pub loop-p-init : goal.loop-p-init
loop-p-init g c =
    let none : 0 ≡ min (64 * 0) (length c.args.ops.now) = omega arith in
    record {
      more = omega arith;
      passes = subst (λ m. Passes c.args.nodes.now c.args.blocks.now c.args.lanes.now c.args.places.now (value_in (bits_of c.args.places.now c.args.start.now)) (word_at c.args.memory.now) (value_in c.args.written.now) c.args.whole 0 m c.args.slots.now c.args.slots.now c.args.steps.now c.args.steps.now) none (passes_none c.args.nodes.now c.args.blocks.now c.args.lanes.now c.args.places.now (value_in (bits_of c.args.places.now c.args.start.now)) (word_at c.args.memory.now) (value_in c.args.written.now) c.args.whole 0 c.args.slots.now c.args.steps.now);
      grows = λ m off. off;
      idle = c.requires.idle;
      takes = c.requires.takes;
    }

pub loop-p-preserved : goal.loop-p-preserved
loop-p-preserved g c =
    let more = c.pass_marked.ensures.more in
    let from : 64 * c.loop-p.p ≡ min (64 * c.loop-p.p) (length c.args.ops.now) = omega arith in
    let next : min (64 * c.loop-p.p + 64) (length c.args.ops.now) ≡ min (64 * (c.loop-p.p + 1)) (length c.args.ops.now) = omega arith in
    record {
      more = omega arith;
      passes =
          subst (λ m. Passes c.args.nodes.now c.args.blocks.now c.args.lanes.now c.args.places.now (value_in (bits_of c.args.places.now c.args.start.now)) (word_at c.args.memory.now) (value_in c.args.written.now) c.args.whole 0 m c.args.slots.now c.pass_marked.new.slots c.args.steps.now c.pass_marked.new.steps) next
          (passes_then c.args.nodes.now c.args.blocks.now c.args.lanes.now c.args.places.now (value_in (bits_of c.args.places.now c.args.start.now)) (word_at c.args.memory.now) (value_in c.args.written.now) c.args.whole 0 (min (64 * c.loop-p.p) (length c.args.ops.now)) (min (64 * c.loop-p.p + 64) (length c.args.ops.now)) c.args.slots.now c.loop-p.slots c.pass_marked.new.slots c.args.steps.now c.loop-p.steps c.pass_marked.new.steps c.loop-p.invariant.passes
          (subst (λ m. Passes c.args.nodes.now c.args.blocks.now c.args.lanes.now c.args.places.now (value_in (bits_of c.args.places.now c.args.start.now)) (word_at c.args.memory.now) (value_in c.args.written.now) c.args.whole m (min (64 * c.loop-p.p + 64) (length c.args.ops.now)) c.loop-p.slots c.pass_marked.new.slots c.loop-p.steps c.pass_marked.new.steps) from c.pass_marked.ensures.passes));
      grows = grows_then c.args.marks.now c.loop-p.marks c.pass_marked.new.marks c.loop-p.invariant.grows c.pass_marked.ensures.grows;
      idle = c.pass_marked.ensures.idle;
      takes = c.pass_marked.ensures.takes;
    }

pub returns-clause-passed : goal.returns-clause-passed
returns-clause-passed g c =
    let end : min (64 * c.loop-p.p) (length c.args.ops.now) ≡ length c.loop-p.slots = omega arith in
    let long : length c.args.ops.now ≡ length c.loop-p.slots = omega arith in
    let far = subst (λ m. Passes c.args.nodes.now c.args.blocks.now c.args.lanes.now c.args.places.now (value_in (bits_of c.args.places.now c.args.start.now)) (word_at c.args.memory.now) (value_in c.args.written.now) c.args.whole 0 m c.args.slots.now c.loop-p.slots c.args.steps.now c.loop-p.steps) end c.loop-p.invariant.passes in
    let placed = subst (λ m. (k : ℕ) → k < length c.args.nodes.now → IsPlaced m c.args.lanes.now c.args.places.now k) long c.requires.plan.placed in
    subst (λ m. ArePassed (length c.args.nodes.now) c.args.lanes.now (value_in (values_of c.args.places.now c.args.slots.now)) (value_in (values_of c.args.places.now c.loop-p.slots)) m c.loop-p.slots) (sym long) (at_new c.args.nodes.now c.args.blocks.now c.args.lanes.now c.args.places.now (value_in (bits_of c.args.places.now c.args.start.now)) (word_at c.args.memory.now) (value_in c.args.written.now) c.args.whole c.args.slots.now c.loop-p.slots c.args.steps.now c.loop-p.steps c.requires.ordered c.requires.plan.places_long placed c.requires.stored c.requires.settled far).0

pub returns-clause-row : goal.returns-clause-row
returns-clause-row g c =
    let end : min (64 * c.loop-p.p) (length c.args.ops.now) ≡ length c.loop-p.slots = omega arith in
    let long : length c.args.ops.now ≡ length c.loop-p.slots = omega arith in
    let far = subst (λ m. Passes c.args.nodes.now c.args.blocks.now c.args.lanes.now c.args.places.now (value_in (bits_of c.args.places.now c.args.start.now)) (word_at c.args.memory.now) (value_in c.args.written.now) c.args.whole 0 m c.args.slots.now c.loop-p.slots c.args.steps.now c.loop-p.steps) end c.loop-p.invariant.passes in
    let placed = subst (λ m. (k : ℕ) → k < length c.args.nodes.now → IsPlaced m c.args.lanes.now c.args.places.now k) long c.requires.plan.placed in
    all_row c.args.nodes.now c.args.blocks.now c.args.lanes.now c.args.places.now (value_in (bits_of c.args.places.now c.args.start.now)) (word_at c.args.memory.now) (value_in c.args.written.now) c.args.whole c.args.slots.now c.loop-p.slots c.args.steps.now c.loop-p.steps c.requires.ordered c.requires.plan.places_long placed c.requires.stored c.requires.settled far

pub returns-clause-counted : goal.returns-clause-counted
returns-clause-counted g c =
    let end : min (64 * c.loop-p.p) (length c.args.ops.now) ≡ length c.loop-p.slots = omega arith in
    let long : length c.args.ops.now ≡ length c.loop-p.slots = omega arith in
    let far = subst (λ m. Passes c.args.nodes.now c.args.blocks.now c.args.lanes.now c.args.places.now (value_in (bits_of c.args.places.now c.args.start.now)) (word_at c.args.memory.now) (value_in c.args.written.now) c.args.whole 0 m c.args.slots.now c.loop-p.slots c.args.steps.now c.loop-p.steps) end c.loop-p.invariant.passes in
    let placed = subst (λ m. (k : ℕ) → k < length c.args.nodes.now → IsPlaced m c.args.lanes.now c.args.places.now k) long c.requires.plan.placed in
    all_counted c.args.nodes.now c.args.blocks.now c.args.lanes.now c.args.places.now (value_in (bits_of c.args.places.now c.args.start.now)) (word_at c.args.memory.now) (value_in c.args.written.now) c.args.whole c.args.slots.now c.loop-p.slots c.args.steps.now c.loop-p.steps c.requires.ordered c.requires.plan.places_long placed c.requires.stored c.requires.settled far

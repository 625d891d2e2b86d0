use Rattle.std.proofs.Common.{◌≡◌, ℕ, ◌+◌, ◌<◌, length, arith, sym, subst}
use Rattle.std.proofs.lemmas.Option.{slice_get-get_or}
use Rattle.netlist.specs.Present.{value_in}
use Rattle.netlist.specs.Words.{word_at}
use Rattle.gate_sim.specs.declared.plan.Op.TheVariants.{Held}
use Rattle.gate_sim.specs.Inner.Plans.{IsPlaced}
use Rattle.gate_sim.specs.Inner.Slots.{bits_of, Passes}
use Rattle.gate_sim.proofs.Passing.{passes_none, passes_more}
use Rattle.gate_sim.proofs.pass.pass_run.Goals as goal

pub loop-q-init : goal.loop-q-init
loop-q-init g c = record {
  more = omega arith;
  passes = passes_none c.args.nodes.now c.args.blocks.now c.args.lanes.now c.args.places.now (value_in (bits_of c.args.places.now c.args.start.now)) (word_at c.args.memory.now) (value_in c.args.written.now) c.args.whole c.args.from c.args.slots.now c.args.steps.now;
}

pub loop-q-preserved : goal.loop-q-preserved
loop-q-preserved g c =
    let more = c.put_op.ensures.more in
    record {
      more = omega arith;
      passes = subst (λ s. Passes c.args.nodes.now c.args.blocks.now c.args.lanes.now c.args.places.now (value_in (bits_of c.args.places.now c.args.start.now)) (word_at c.args.memory.now) (value_in c.args.written.now) c.args.whole c.args.from (c.loop-q.q + 1) c.args.slots.now s c.args.steps.now c.put_op.new.steps) (sym c.put_op.ensures.put) (passes_more c.args.nodes.now c.args.blocks.now c.args.lanes.now c.args.places.now (value_in (bits_of c.args.places.now c.args.start.now)) (word_at c.args.memory.now) (value_in c.args.written.now) c.args.whole c.args.from c.loop-q.q c.args.slots.now c.loop-q.slots c.put_op.result c.args.steps.now c.loop-q.steps c.put_op.new.steps (omega arith) c.loop-q.invariant.passes c.put_op.ensures.passes);
    }

pub put_op-requires-clause-right : goal.put_op-requires-clause-right
put_op-requires-clause-right g c = c.requires.plan.each c.loop-q.q _ (slice_get-get_or c.args.ops.now c.loop-q.q Held (omega arith))

pub put_op-requires-clause-placed : goal.put_op-requires-clause-placed
put_op-requires-clause-placed g c =
    let long : length c.args.ops.now ≡ length c.loop-q.slots = omega arith in
    subst (λ m. (k : ℕ) → k < length c.args.nodes.now → IsPlaced m c.args.lanes.now c.args.places.now k) long c.requires.plan.placed

pub returns-clause-passes : goal.returns-clause-passes
returns-clause-passes g c =
    let end : c.loop-q.q ≡ c.args.end = omega arith in
    subst (λ m. Passes c.args.nodes.now c.args.blocks.now c.args.lanes.now c.args.places.now (value_in (bits_of c.args.places.now c.args.start.now)) (word_at c.args.memory.now) (value_in c.args.written.now) c.args.whole c.args.from m c.args.slots.now c.loop-q.slots c.args.steps.now c.loop-q.steps) end c.loop-q.invariant.passes

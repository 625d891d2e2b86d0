use Rattle.std.proofs.Common.{◌≡◌, ℕ, ◌<◌, length, arith, subst}
use Rattle.std.proofs.lemmas.Option.{slice_get-get_or}
use Rattle.netlist.specs.Present.{value_in}
use Rattle.netlist.specs.Words.{word_at}
use Rattle.gate_sim.specs.declared.plan.Op.TheVariants.{Held}
use Rattle.gate_sim.specs.Inner.Pieces.{piece_of}
use Rattle.gate_sim.specs.Inner.Plans.{IsPlaced}
use Rattle.gate_sim.specs.Inner.Slots.{bits_of, Passes}
use Rattle.gate_sim.proofs.Passing.{passes_none, passes_more}
use Rattle.gate_sim.proofs.Idle.{grows_then, stays_on, idle_set, idle_takes_set}
use Rattle.gate_sim.proofs.marked.pass_piece.Goals as goal

pub loop-q-init : goal.loop-q-init
loop-q-init g c = record {
  more = omega arith;
  passes = passes_none c.args.nodes.now c.args.blocks.now c.args.lanes.now c.args.places.now (value_in (bits_of c.args.places.now c.args.start.now)) (word_at c.args.memory.now) (value_in c.args.written.now) c.args.whole c.args.from c.args.slots.now c.args.steps.now;
  grows = λ m off. off;
  idle = c.requires.idle;
  takes = c.requires.takes;
}

pub loop-q-preserved : goal.loop-q-preserved
loop-q-preserved g c =
    let more = c.pass_op-slot.ensures.more in
    record {
      more = omega arith;
      passes = passes_more c.args.nodes.now c.args.blocks.now c.args.lanes.now c.args.places.now (value_in (bits_of c.args.places.now c.args.start.now)) (word_at c.args.memory.now) (value_in c.args.written.now) c.args.whole c.args.from c.loop-q.q c.args.slots.now c.loop-q.slots c.pass_op-slot.result c.args.steps.now c.loop-q.steps c.pass_op-slot.new.steps (omega arith) c.loop-q.invariant.passes c.pass_op-slot.ensures.passes;
      grows = grows_then c.args.marks.now c.loop-q.marks c.mark_readers.new.marks c.loop-q.invariant.grows c.mark_readers.ensures.grows;
      idle = idle_set (length c.args.nodes.now) c.args.lanes.now (value_in (bits_of c.args.places.now c.args.start.now)) c.args.ops.now c.args.takes.now c.args.spans.now c.args.list.now c.args.always.now c.loop-q.slots c.loop-q.marks c.mark_readers.new.marks c.loop-q.q c.pass_op-slot.result c.requires.readers (omega arith) (stays_on c.args.marks.now c.loop-q.marks (piece_of c.loop-q.q) (c.loop-q.invariant.grows (piece_of c.loop-q.q)) (c.requires.on c.loop-q.q (omega arith) (omega arith))) (omega arith) c.mark_readers.ensures.grows c.mark_readers.ensures.told c.loop-q.invariant.idle;
      takes = idle_takes_set (length c.args.nodes.now) c.args.lanes.now (value_in (bits_of c.args.places.now c.args.start.now)) c.args.ops.now c.args.takes.now c.args.spans.now c.args.list.now c.args.always.now c.loop-q.slots c.loop-q.marks c.mark_readers.new.marks c.loop-q.q c.pass_op-slot.result c.requires.readers (omega arith) (stays_on c.args.marks.now c.loop-q.marks (piece_of c.loop-q.q) (c.loop-q.invariant.grows (piece_of c.loop-q.q)) (c.requires.on c.loop-q.q (omega arith) (omega arith))) (omega arith) c.mark_readers.ensures.grows c.mark_readers.ensures.told c.loop-q.invariant.takes;
    }

pub pass_op-slot-requires-clause-right : goal.pass_op-slot-requires-clause-right
pass_op-slot-requires-clause-right g c = c.requires.plan.each c.loop-q.q _ (slice_get-get_or c.args.ops.now c.loop-q.q Held (omega arith))

pub pass_op-slot-requires-clause-placed : goal.pass_op-slot-requires-clause-placed
pass_op-slot-requires-clause-placed g c =
    let long : length c.args.ops.now ≡ length c.loop-q.slots = omega arith in
    subst (λ m. (k : ℕ) → k < length c.args.nodes.now → IsPlaced m c.args.lanes.now c.args.places.now k) long c.requires.plan.placed

pub returns-clause-passes : goal.returns-clause-passes
returns-clause-passes g c =
    let end : c.loop-q.q ≡ c.args.end = omega arith in
    subst (λ m. Passes c.args.nodes.now c.args.blocks.now c.args.lanes.now c.args.places.now (value_in (bits_of c.args.places.now c.args.start.now)) (word_at c.args.memory.now) (value_in c.args.written.now) c.args.whole c.args.from m c.args.slots.now c.loop-q.slots c.args.steps.now c.loop-q.steps) end c.loop-q.invariant.passes

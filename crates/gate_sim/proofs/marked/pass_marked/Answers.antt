use Rattle.std.proofs.Common.{◌≡◌, ◌+◌, ◌-◌, ◌*◌, ℕ, true, false, length, set, min, arith, ap, subst, ◌∙◌, get_or-set_same}
use Rattle.netlist.specs.Present.{value_in}
use Rattle.netlist.specs.Words.{word_at}
use Rattle.gate_sim.specs.Inner.Pieces.{piece_of}
use Rattle.gate_sim.specs.Inner.Slots.{bits_of, Passes}
use Rattle.gate_sim.proofs.Idle.{grows_set, grows_then, idle_grows, idle_takes_grow, passes_idle}
use Rattle.gate_sim.proofs.marked.pass_marked.Goals as goal

pub returns-then-is_left-clause-passes : goal.returns-then-is_left-clause-passes
returns-then-is_left-clause-passes g c =
    let off = c.is_left.ensures c.if-is_left.true in
    let piece = c.requires.piece in
    let k : ℕ = min (64 * c.args.p + 64) (length c.args.ops.now) - 64 * c.args.p in
    let same : 64 * c.args.p + k ≡ min (64 * c.args.p + 64) (length c.args.ops.now) = omega arith in
    subst (λ m. Passes c.args.nodes.now c.args.blocks.now c.args.lanes.now c.args.places.now (value_in (bits_of c.args.places.now c.args.start.now)) (word_at c.args.memory.now) (value_in c.args.written.now) c.args.whole (64 * c.args.p) m c.args.slots.now c.args.slots.now c.args.steps.now c.args.steps.now) same
    (passes_idle c.args.nodes.now c.args.blocks.now c.args.ops.now c.args.lanes.now c.args.places.now (value_in (bits_of c.args.places.now c.args.start.now)) (word_at c.args.memory.now) (value_in c.args.written.now) c.args.whole c.args.slots.now c.args.marks.now c.requires.ordered c.requires.plan c.requires.slots off.0 c.requires.idle (64 * c.args.p) k c.args.steps.now (omega arith)
    (λ q le less. let e : piece_of q ≡ c.args.p = omega arith in ap (value_in c.args.marks.now) e ∙ off.1))

pub pass_piece-requires-clause-idle : goal.pass_piece-requires-clause-idle
pass_piece-requires-clause-idle g c = idle_grows (length c.args.nodes.now) c.args.lanes.now _ c.args.ops.now c.args.slots.now c.args.marks.now _ (λ m off. grows_set c.args.marks.now c.args.p m (omega arith) off) c.requires.idle

pub pass_piece-requires-clause-takes : goal.pass_piece-requires-clause-takes
pass_piece-requires-clause-takes g c = idle_takes_grow _ c.args.takes.now c.args.slots.now c.args.marks.now _ (λ m off. grows_set c.args.marks.now c.args.p m (omega arith) off) c.requires.takes

pub pass_piece-requires-clause-on : goal.pass_piece-requires-clause-on
pass_piece-requires-clause-on g c q le less =
    let end = c.end_of.ensures in
    let e : piece_of q ≡ c.args.p = omega arith in
    ap (value_in (set c.args.marks.now c.args.p true)) e ∙ get_or-set_same c.args.marks.now c.args.p true false (omega arith)

pub returns-clause-passes : goal.returns-clause-passes
returns-clause-passes g c =
    subst (λ m. Passes c.args.nodes.now c.args.blocks.now c.args.lanes.now c.args.places.now (value_in (bits_of c.args.places.now c.args.start.now)) (word_at c.args.memory.now) (value_in c.args.written.now) c.args.whole (64 * c.args.p) m c.args.slots.now c.pass_piece.new.slots c.args.steps.now c.pass_piece.new.steps) c.end_of.ensures c.pass_piece.ensures.passes

pub returns-clause-grows : goal.returns-clause-grows
returns-clause-grows g c = grows_then c.args.marks.now (set c.args.marks.now c.args.p true) c.pass_piece.new.marks (λ m off. grows_set c.args.marks.now c.args.p m (omega arith) off) c.pass_piece.ensures.grows

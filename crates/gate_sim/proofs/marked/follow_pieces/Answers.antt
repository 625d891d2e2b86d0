use Rattle.std.proofs.Common.{◌≡◌, ◌≤◌, ◌<◌, ◌+◌, ℕ, length, arith, sym, subst}
use Rattle.std.specs.List.{count_by}
use Rattle.netlist.specs.declared.node.Node.TheVariants.{Flip}
use Rattle.netlist.specs.Present.{IsRow, value_in}
use Rattle.netlist.specs.Touched.{is_other}
use Rattle.netlist.specs.Words.{word_at}
use Rattle.netlist.specs.Inner.Taken.{is_taken}
use Rattle.gate_sim.specs.Inner.Pieces.{piece_of, pieces_in, AreGiven, take_mark}
use Rattle.gate_sim.specs.Inner.Slots.{bits_of, values_of, ArePassed, AreStored}
use Rattle.gate_sim.proofs.Idle.{idle_takes_still, idle_end, given_after, given_same, values_same, stored_same}
use Rattle.gate_sim.proofs.marked.follow_pieces.Goals as goal

pub pass_pieces-requires-clause-takes : goal.pass_pieces-requires-clause-takes
pass_pieces-requires-clause-takes g c = idle_takes_still _ c.args.takes.now c.args.slots.now c.args.marks.now c.requires.still

pub calm_pieces-requires-clause-still : goal.calm_pieces-requires-clause-still
calm_pieces-requires-clause-still g c = c.pass_pieces.ensures.idle.still

pub returns-clause-stored : goal.returns-clause-stored
returns-clause-stored g c =
    let same = values_same c.args.places.now c.pass_pieces.new.slots c.calm_pieces.new.slots c.calm_pieces.ensures.values in
    let long : length c.args.ops.now ≡ length c.pass_pieces.new.slots = omega arith in
    let far = subst (λ m. ArePassed (length c.args.nodes.now) c.args.lanes.now (value_in (values_of c.args.places.now c.args.slots.now)) (value_in (values_of c.args.places.now c.pass_pieces.new.slots)) m c.pass_pieces.new.slots) long c.pass_pieces.ensures.passed in
    subst (λ v. AreStored (length c.args.nodes.now) c.args.lanes.now (value_in v) c.calm_pieces.new.slots) (sym same)
    (stored_same (length c.args.nodes.now) c.args.lanes.now (value_in (values_of c.args.places.now c.args.slots.now)) (value_in (values_of c.args.places.now c.pass_pieces.new.slots)) c.pass_pieces.new.slots c.calm_pieces.new.slots far (omega arith) c.calm_pieces.ensures.values)

pub returns-clause-row : goal.returns-clause-row
returns-clause-row g c =
    let same = values_same c.args.places.now c.pass_pieces.new.slots c.calm_pieces.new.slots c.calm_pieces.ensures.values in
    subst (λ v. IsRow c.args.nodes.now c.args.blocks.now (value_in (bits_of c.args.places.now c.args.start.now)) (word_at c.args.memory.now) (value_in v)) (sym same) c.pass_pieces.ensures.row

pub returns-clause-counted : goal.returns-clause-counted
returns-clause-counted g c =
    let same = values_same c.args.places.now c.pass_pieces.new.slots c.calm_pieces.new.slots c.calm_pieces.ensures.values in
    subst (λ v. c.pass_pieces.new.steps ≤ c.args.steps.now + count_by (is_taken c.args.whole c.args.blocks.now (λ k. is_other (value_in (values_of c.args.places.now c.args.slots.now) k) (value_in v k)) (value_in c.args.written.now)) c.args.nodes.now) (sym same) c.pass_pieces.ensures.counted

pub returns-clause-idle : goal.returns-clause-idle
returns-clause-idle g c =
    let same = values_same c.args.places.now c.pass_pieces.new.slots c.calm_pieces.new.slots c.calm_pieces.ensures.values in
    let long : length c.args.ops.now ≡ length c.pass_pieces.new.slots = omega arith in
    let far = subst (λ m. ArePassed (length c.args.nodes.now) c.args.lanes.now (value_in (values_of c.args.places.now c.args.slots.now)) (value_in (values_of c.args.places.now c.pass_pieces.new.slots)) m c.pass_pieces.new.slots) long c.pass_pieces.ensures.passed in
    let row = subst (λ v. IsRow c.args.nodes.now c.args.blocks.now (value_in (bits_of c.args.places.now c.args.start.now)) (word_at c.args.memory.now) (value_in v)) (sym same) c.pass_pieces.ensures.row in
    let stored =
    subst (λ v. AreStored (length c.args.nodes.now) c.args.lanes.now (value_in v) c.calm_pieces.new.slots) (sym same)
    (stored_same (length c.args.nodes.now) c.args.lanes.now (value_in (values_of c.args.places.now c.args.slots.now)) (value_in (values_of c.args.places.now c.pass_pieces.new.slots)) c.pass_pieces.new.slots c.calm_pieces.new.slots far (omega arith) c.calm_pieces.ensures.values) in
    let pieces = subst (λ n. (m : ℕ) → m < pieces_in n → value_in c.calm_pieces.new.marks m ≡ value_in c.args.always.now m) (sym long) c.calm_pieces.ensures.pieces in
    idle_end c.args.nodes.now c.args.blocks.now c.args.ops.now c.args.lanes.now c.args.places.now (value_in (bits_of c.args.places.now c.args.start.now)) (word_at c.args.memory.now) c.args.takes.now c.args.spans.now c.args.list.now c.args.always.now c.calm_pieces.new.slots c.calm_pieces.new.marks c.requires.plan c.requires.readers (omega arith) c.calm_pieces.ensures.still stored row pieces

pub returns-clause-given : goal.returns-clause-given
returns-clause-given g c fixed given =
    let same = values_same c.args.places.now c.pass_pieces.new.slots c.calm_pieces.new.slots c.calm_pieces.ensures.values in
    let long : length c.args.ops.now ≡ length c.pass_pieces.new.slots = omega arith in
    subst (λ v. AreGiven c.args.nodes.now c.args.places.now c.args.takes.now (take_mark (pieces_in (length c.args.ops.now)) c.calm_pieces.new.marks) (λ k i. value_in v i) fixed) (sym same)
    (given_same c.args.nodes.now c.args.places.now c.args.takes.now (take_mark (pieces_in (length c.args.ops.now)) c.pass_pieces.new.marks) (take_mark (pieces_in (length c.args.ops.now)) c.calm_pieces.new.marks) (λ k i. value_in (values_of c.args.places.now c.pass_pieces.new.slots) i) fixed
    (λ t. c.calm_pieces.ensures.takes (pieces_in (length c.args.ops.now) + piece_of t) (omega arith))
    (given_after c.args.nodes.now (length c.args.ops.now) (pieces_in (length c.args.ops.now)) c.args.lanes.now c.args.places.now c.args.takes.now (value_in (values_of c.args.places.now c.args.slots.now)) (value_in (values_of c.args.places.now c.pass_pieces.new.slots)) c.pass_pieces.new.slots c.args.marks.now c.pass_pieces.new.marks fixed c.requires.plan.placed c.requires.are_takes (λ k i at. c.requires.ordered.fit k (Flip i) at) c.pass_pieces.ensures.passed c.pass_pieces.ensures.grows c.pass_pieces.ensures.takes given))

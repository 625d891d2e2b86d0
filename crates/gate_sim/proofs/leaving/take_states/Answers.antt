use Rattle.std.proofs.Common.{◌≡◌, ◌<◌, ℕ, false, refl, arith, ap, sym, subst, ◌∙◌, inl, inr, length, get_or-set_other}
use Rattle.std.proofs.lemmas.Bool.{cases_eq}
use Rattle.std.proofs.lemmas.Option.{slice_get_within}
use Rattle.netlist.specs.Present.{value_in}
use Rattle.gate_sim.specs.Inner.Pieces.{piece_of}
use Rattle.gate_sim.specs.Inner.Plans.{IsPlaced}
use Rattle.gate_sim.specs.Inner.Takes.{AreTakes}
use Rattle.gate_sim.proofs.Idle.{grows_then}
use Rattle.gate_sim.proofs.leaving.take_states.Goals as goal

pub loop-c-init : goal.loop-c-init
loop-c-init c = record {
  pins = λ k at. refl;
  given = λ k i t take less. absurd (omega arith);
  kept = λ k i at right. right;
  grows = λ m off. off;
  same = λ q off. refl;
  later = λ d le. refl;
}

pub take_piece-requires-clause-given : goal.take_piece-requires-clause-given
take_piece-requires-clause-given c none k i t take e at given =
    c.loop-c.invariant.kept k i at (c.requires.given k i t take (ap (value_in c.args.due.now) e ∙ sym (c.loop-c.invariant.later c.loop-c.c (omega arith)) ∙ none) at given)

pub loop-c-preserved : goal.loop-c-preserved
loop-c-preserved c = record {
  pins = λ k at. c.take_piece.ensures.pins k at ∙ c.loop-c.invariant.pins k at;
  given = λ k i t take less at given. elim (cases_eq (piece_of t) c.loop-c.c) [
    | inl e ↦ c.take_piece.ensures.given k i t take e at given
    | inr ne ↦ c.take_piece.ensures.kept k i at (c.loop-c.invariant.given k i t take (omega arith) at given)
  ];
  kept = λ k i at right. c.take_piece.ensures.kept k i at (c.loop-c.invariant.kept k i at right);
  grows = grows_then c.args.marks.now c.loop-c.marks c.take_piece.new.marks c.loop-c.invariant.grows c.take_piece.ensures.grows;
  same = λ q off. c.take_piece.ensures.same q off ∙ c.loop-c.invariant.same q (c.take_piece.ensures.grows (piece_of q) off);
  later = λ d le. get_or-set_other c.loop-c.due c.loop-c.c d false false (omega arith) ∙ c.loop-c.invariant.later d (omega arith);
}

pub take_piece-requires-clause-takes : goal.take_piece-requires-clause-takes
take_piece-requires-clause-takes c =
    let long : length c.args.start.now ≡ length c.loop-c.start = omega arith in
    subst (λ n. AreTakes c.args.nodes.now n c.args.lanes.now c.args.places.now c.args.takes.now) long c.requires.takes

pub take_piece-requires-clause-placed : goal.take_piece-requires-clause-placed
take_piece-requires-clause-placed c =
    let long : length c.args.start.now ≡ length c.loop-c.start = omega arith in
    subst (λ n. (k : ℕ) → k < length c.args.nodes.now → IsPlaced n c.args.lanes.now c.args.places.now k) long c.requires.placed

pub returns-clause-flips : goal.returns-clause-flips
returns-clause-flips c k i at =
    let served = c.requires.takes.all k i at in
    let inside = slice_get_within c.args.takes.now served.0 served.1 served.2 in
    let due = c.requires.due in
    c.loop-c.invariant.given k i served.0 served.1 (omega arith) at (record { there = served.2; slot = served.3; on = served.4 })

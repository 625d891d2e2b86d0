use Rattle.std.proofs.Common.{◌≡◌, ◌<◌, ◌+◌, false, refl, arith, ap, sym, ◌∙◌, inl, inr, length, set, get_or-set_same, get_or-set_other}
use Rattle.std.specs.Prelude.{◌||◌}
use Rattle.std.proofs.lemmas.Bool.{cases_eq, or_parts}
use Rattle.std.proofs.lemmas.Option.{slice_get_within}
use Rattle.netlist.specs.Present.{value_in}
use Rattle.gate_sim.specs.Inner.Pieces.{piece_of, pieces_in}
use Rattle.gate_sim.proofs.leaving.fix_states.Goals as goal

pub loop-c-init : goal.loop-c-init
loop-c-init c = record {
  given = λ k i t take less. absurd (omega arith);
  kept = λ k i at right. right;
  pieces = λ m less. refl;
  rest = λ d le. refl;
  off = λ d less. absurd (omega arith);
  later = λ d le. refl;
}

pub fix_piece-requires-clause-given : goal.fix_piece-requires-clause-given
fix_piece-requires-clause-given c none k i t take e at given =
    let same : pieces_in (length c.args.slots.now) + c.loop-c.c ≡ pieces_in (length c.args.slots.now) + piece_of t = omega arith in
    c.loop-c.invariant.kept k i at (c.requires.given k i t take (sym (ap (value_in c.args.marks.now) same) ∙ sym (c.loop-c.invariant.rest c.loop-c.c (omega arith)) ∙ none) at given)

pub loop-c-preserved : goal.loop-c-preserved
loop-c-preserved c =
    let there : c.loop-c.c < length c.loop-c.due = omega arith in
    let due = c.requires.due in
    let marked = c.requires.marks in
    let low : pieces_in (length c.args.slots.now) + c.loop-c.c < length c.loop-c.marks = omega arith in
    record {
      given = λ k i t take less at given. elim (cases_eq (piece_of t) c.loop-c.c) [
        | inl e ↦ c.fix_piece.ensures.given k i t take e at given
        | inr ne ↦ c.fix_piece.ensures.kept k i at (c.loop-c.invariant.given k i t take (omega arith) at given)
      ];
      kept = λ k i at right. c.fix_piece.ensures.kept k i at (c.loop-c.invariant.kept k i at right);
      pieces = λ m less. get_or-set_other c.loop-c.marks (pieces_in (length c.args.slots.now) + c.loop-c.c) m false false (omega arith) ∙ c.loop-c.invariant.pieces m less;
      rest = λ d le. get_or-set_other c.loop-c.marks (pieces_in (length c.args.slots.now) + c.loop-c.c) (pieces_in (length c.args.slots.now) + d) false false (omega arith) ∙ c.loop-c.invariant.rest d (omega arith);
      off = λ d less no. elim (cases_eq d c.loop-c.c) [
        | inl e ↦
            let both = or_parts (value_in c.loop-c.due c.loop-c.c) (value_in c.loop-c.marks (pieces_in (length c.args.slots.now) + c.loop-c.c)) (sym (get_or-set_same c.loop-c.due c.loop-c.c (value_in c.loop-c.due c.loop-c.c || value_in c.loop-c.marks (pieces_in (length c.args.slots.now) + c.loop-c.c)) false there) ∙ sym (ap (value_in (set c.loop-c.due c.loop-c.c (value_in c.loop-c.due c.loop-c.c || value_in c.loop-c.marks (pieces_in (length c.args.slots.now) + c.loop-c.c)))) e) ∙ no) in (
              ap (value_in c.args.due.now) e ∙ sym (c.loop-c.invariant.later c.loop-c.c (omega arith)) ∙ both.0,
              ap (λ x. value_in c.args.marks.now (pieces_in (length c.args.slots.now) + x)) e ∙ sym (c.loop-c.invariant.rest c.loop-c.c (omega arith)) ∙ both.1,
            )
        | inr ne ↦ c.loop-c.invariant.off d (omega arith) (sym (get_or-set_other c.loop-c.due c.loop-c.c d (value_in c.loop-c.due c.loop-c.c || value_in c.loop-c.marks (pieces_in (length c.args.slots.now) + c.loop-c.c)) false ne) ∙ no)
      ];
      later = λ d le. get_or-set_other c.loop-c.due c.loop-c.c d (value_in c.loop-c.due c.loop-c.c || value_in c.loop-c.marks (pieces_in (length c.args.slots.now) + c.loop-c.c)) false (omega arith) ∙ c.loop-c.invariant.later d (omega arith);
    }

pub returns-clause-flips : goal.returns-clause-flips
returns-clause-flips c k i at =
    let served = c.requires.takes.all k i at in
    let inside = slice_get_within c.args.takes.now served.0 served.1 served.2 in
    let due = c.requires.due in
    c.loop-c.invariant.given k i served.0 served.1 (omega arith) at (record { there = served.2; slot = served.3; on = served.4 })

pub returns-clause-due : goal.returns-clause-due
returns-clause-due c d less none = let due = c.requires.due in c.loop-c.invariant.off d (omega arith) none

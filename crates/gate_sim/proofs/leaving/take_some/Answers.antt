use Rattle.std.proofs.Common.{◌≢◌, refl, length, get_or, arith, ap, sym, subst, ◌∙◌, inl, inr, get_or-set_other}
use Rattle.std.specs.Prelude.{slice_index}
use Rattle.std.proofs.lemmas.Bool.{cases_eq, false≢true}
use Rattle.std.proofs.lemmas.Option.{slice_get-get_or}
use Rattle.netlist.specs.Present.{value_in}
use Rattle.word16.specs.Words.{has_bit}
use Rattle.gate_sim.specs.Inner.Pieces.{piece_of, IsGiven}
use Rattle.gate_sim.specs.Inner.Plans.{place_of}
use Rattle.gate_sim.specs.Inner.Slots.{word_lane}
use Rattle.gate_sim.proofs.Idle.{grows_then}
use Rattle.gate_sim.proofs.Taking.{pins_more, state_kept, state_given}
use Rattle.gate_sim.proofs.leaving.take_some.Goals as goal

pub loop-t-init : goal.loop-t-init
loop-t-init c = record {
  pins = λ k at. refl;
  given = λ k i j take le less. absurd (omega arith);
  kept = λ k i at right. right;
  grows = λ m off. off;
  same = λ q off. refl;
}

pub loop-t-preserved : goal.loop-t-preserved
loop-t-preserved c =
    let there = slice_get-get_or c.args.takes.now c.loop-t.t (record { slot = 0; source = 0; down = 0; mask = 0 }) (omega arith) in
    let is = c.requires.takes.each c.loop-t.t _ there in
    let low = is.slot in
    record {
      pins = pins_more c.args.nodes.now (length c.args.start.now) c.args.lanes.now c.args.places.now c.args.takes.now c.requires.placed c.loop-t.start c.args.start.now c.chosen-word.result _ _ is (omega arith) c.chosen-word.ensures c.loop-t.invariant.pins;
      given = λ k i j take le less at given. elim (cases_eq j c.loop-t.t) [
        | inl e ↦
            state_given c.args.nodes.now c.args.places.now c.args.takes.now c.loop-t.start c.chosen-word.result (get_or c.args.takes.now c.loop-t.t (record { slot = 0; source = 0; down = 0; mask = 0 })) (slice_index c.args.fixed.now (get_or c.args.takes.now c.loop-t.t (record { slot = 0; source = 0; down = 0; mask = 0 })).slot) (λ k i. word_lane c.args.fixed.now (place_of c.args.places.now k)) c.loop-t.t there (omega arith) c.chosen-word.ensures
            (λ k i at slot on. ap (λ q. has_bit (slice_index c.args.fixed.now q) (place_of c.args.places.now k).at) slot)
            k i take at (subst (λ x. IsGiven c.args.places.now c.args.takes.now k x take) e given)
        | inr ne ↦
            state_kept c.args.nodes.now c.args.places.now c.loop-t.start c.chosen-word.result (get_or c.args.takes.now c.loop-t.t (record { slot = 0; source = 0; down = 0; mask = 0 })) (slice_index c.args.fixed.now (get_or c.args.takes.now c.loop-t.t (record { slot = 0; source = 0; down = 0; mask = 0 })).slot) (λ k i. word_lane c.args.fixed.now (place_of c.args.places.now k)) (omega arith) c.chosen-word.ensures
            (λ k i at slot on. ap (λ q. has_bit (slice_index c.args.fixed.now q) (place_of c.args.places.now k).at) slot)
            k i at (c.loop-t.invariant.given k i j take le (omega arith) at given)
      ];
      kept = λ k i at right.
          state_kept c.args.nodes.now c.args.places.now c.loop-t.start c.chosen-word.result (get_or c.args.takes.now c.loop-t.t (record { slot = 0; source = 0; down = 0; mask = 0 })) (slice_index c.args.fixed.now (get_or c.args.takes.now c.loop-t.t (record { slot = 0; source = 0; down = 0; mask = 0 })).slot) (λ k i. word_lane c.args.fixed.now (place_of c.args.places.now k)) (omega arith) c.chosen-word.ensures
          (λ k i at slot on. ap (λ q. has_bit (slice_index c.args.fixed.now q) (place_of c.args.places.now k).at) slot)
          k i at (c.loop-t.invariant.kept k i at right);
      grows = grows_then c.args.marks.now c.loop-t.marks c.mark_slot.new.marks c.loop-t.invariant.grows c.mark_slot.ensures.grows;
      same = λ q off. elim (cases_eq q (get_or c.args.takes.now c.loop-t.t (record { slot = 0; source = 0; down = 0; mask = 0 })).slot) [
        | inl e ↦ absurd (false≢true (sym off ∙ ap (λ x. value_in c.mark_slot.new.marks (piece_of x)) e ∙ c.mark_slot.ensures.on))
        | inr ne ↦ get_or-set_other c.loop-t.start (get_or c.args.takes.now c.loop-t.t (record { slot = 0; source = 0; down = 0; mask = 0 })).slot q c.chosen-word.result 0 ne ∙ c.loop-t.invariant.same q (c.mark_slot.ensures.grows (piece_of q) off)
      ];
    }

pub mark_slot-requires : goal.mark_slot-requires
mark_slot-requires c =
    let there = slice_get-get_or c.args.takes.now c.loop-t.t (record { slot = 0; source = 0; down = 0; mask = 0 }) (omega arith) in
    let is = c.requires.takes.each c.loop-t.t _ there in
    let low = is.slot in
    let marked = c.requires.marks in
    omega arith

pub returns-clause-given : goal.returns-clause-given
returns-clause-given c k i t take le less at given = c.loop-t.invariant.given k i t take le (omega arith) at given

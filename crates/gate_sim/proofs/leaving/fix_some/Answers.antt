use Rattle.std.proofs.Common.{refl, length, get_or, arith, subst, inl, inr}
use Rattle.std.proofs.lemmas.Bool.{cases_eq}
use Rattle.std.proofs.lemmas.Option.{slice_get-get_or}
use Rattle.netlist.specs.Present.{value_in}
use Rattle.gate_sim.specs.Inner.Pieces.{IsGiven}
use Rattle.gate_sim.specs.Inner.Slots.{values_of}
use Rattle.gate_sim.proofs.Taking.{source_right, state_kept, state_given}
use Rattle.gate_sim.proofs.leaving.fix_some.Goals as goal

pub loop-t-init : goal.loop-t-init
loop-t-init c = record {
  given = λ k i j take le less. absurd (omega arith);
  kept = λ k i at right. right;
}

pub loop-t-preserved : goal.loop-t-preserved
loop-t-preserved c =
    let there = slice_get-get_or c.args.takes.now c.loop-t.t (record { slot = 0; source = 0; down = 0; mask = 0 }) (omega arith) in
    let is = c.requires.takes.each c.loop-t.t _ there in
    let low = is.slot in
    let source = source_right c.args.nodes.now (length c.args.slots.now) c.args.lanes.now c.args.places.now c.args.takes.now c.requires.placed c.args.slots.now _ c.lower-value.result refl is c.requires.stored c.requires.inputs c.lower-value.ensures in
    record {
      given = λ k i j take le less at given. elim (cases_eq j c.loop-t.t) [
        | inl e ↦ state_given c.args.nodes.now c.args.places.now c.args.takes.now c.loop-t.fixed c.chosen-word.result (get_or c.args.takes.now c.loop-t.t (record { slot = 0; source = 0; down = 0; mask = 0 })) c.lower-value.result (λ k i. value_in (values_of c.args.places.now c.args.slots.now) i) c.loop-t.t there (omega arith) c.chosen-word.ensures source k i take at (subst (λ x. IsGiven c.args.places.now c.args.takes.now k x take) e given)
        | inr ne ↦ state_kept c.args.nodes.now c.args.places.now c.loop-t.fixed c.chosen-word.result (get_or c.args.takes.now c.loop-t.t (record { slot = 0; source = 0; down = 0; mask = 0 })) c.lower-value.result (λ k i. value_in (values_of c.args.places.now c.args.slots.now) i) (omega arith) c.chosen-word.ensures source k i at (c.loop-t.invariant.given k i j take le (omega arith) at given)
      ];
      kept = λ k i at right. state_kept c.args.nodes.now c.args.places.now c.loop-t.fixed c.chosen-word.result (get_or c.args.takes.now c.loop-t.t (record { slot = 0; source = 0; down = 0; mask = 0 })) c.lower-value.result (λ k i. value_in (values_of c.args.places.now c.args.slots.now) i) (omega arith) c.chosen-word.ensures source k i at (c.loop-t.invariant.kept k i at right);
    }

pub returns-clause-given : goal.returns-clause-given
returns-clause-given c k i t take le less at given = c.loop-t.invariant.given k i t take le (omega arith) at given

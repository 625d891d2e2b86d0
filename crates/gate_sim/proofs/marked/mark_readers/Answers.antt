use Rattle.std.proofs.Common.{◌≡◌, ◌<◌, true, arith, subst, sym, inl, inr, length}
use Rattle.std.specs.Prelude.{slice_index}
use Rattle.std.proofs.lemmas.Bool.{cases_eq}
use Rattle.netlist.specs.Present.{value_in}
use Rattle.gate_sim.proofs.Idle.{grows_then, stays_on}
use Rattle.gate_sim.proofs.marked.mark_readers.Goals as goal

pub loop-i-init : goal.loop-i-init
loop-i-init c = record {
  grows = λ m off. off;
  told = λ j le less inside small. absurd (omega arith);
}

pub loop-i-preserved : goal.loop-i-preserved
loop-i-preserved c = record {
  grows = grows_then c.args.marks.now c.loop-i.marks c.mark_reader.new.marks c.loop-i.invariant.grows c.mark_reader.ensures.grows;
  told = λ j le less inside small. elim (cases_eq j c.loop-i.i) [
    | inl e ↦
        let here : c.loop-i.i < length c.args.list.now = omega arith in
        let low : slice_index c.args.list.now c.loop-i.i < length c.mark_reader.new.marks = subst (λ x. slice_index c.args.list.now x < length c.mark_reader.new.marks) e small in
        subst (λ x. value_in c.mark_reader.new.marks (slice_index c.args.list.now x) ≡ true) (sym e) (c.mark_reader.ensures.told here (omega arith))
    | inr ne ↦ stays_on c.loop-i.marks c.mark_reader.new.marks (slice_index c.args.list.now j) (c.mark_reader.ensures.grows (slice_index c.args.list.now j)) (c.loop-i.invariant.told j le (omega arith) inside (omega arith))
  ];
}

pub returns-clause-told : goal.returns-clause-told
returns-clause-told c ne j le less inside small = c.loop-i.invariant.told j le (omega arith) inside (omega arith)

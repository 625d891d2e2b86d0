use Rattle.std.proofs.Common.{refl, arith, ◌∙◌, inl, inr}
use Rattle.std.proofs.lemmas.Bool.{cases_eq}
use Rattle.gate_sim.proofs.Idle.{calm_value, calm_here, calm_kept}
use Rattle.gate_sim.proofs.marked.calm.Goals as goal

pub loop-q-init : goal.loop-q-init
loop-q-init c = record {
  values = λ p. refl;
  still = λ p le less. absurd (omega arith);
  kept = λ p still. still;
}

pub loop-q-preserved : goal.loop-q-preserved
loop-q-preserved c = record {
  values = λ p. calm_value c.loop-q.slots c.loop-q.q (omega arith) p ∙ c.loop-q.invariant.values p;
  still = λ p le less. elim (cases_eq p c.loop-q.q) [
    | inl e ↦ calm_here c.loop-q.slots c.loop-q.q (omega arith) p e
    | inr ne ↦ calm_kept c.loop-q.slots c.loop-q.q (omega arith) p (c.loop-q.invariant.still p le (omega arith))
  ];
  kept = λ p still. calm_kept c.loop-q.slots c.loop-q.q (omega arith) p (c.loop-q.invariant.kept p still);
}

pub returns-clause-still : goal.returns-clause-still
returns-clause-still c p le less = c.loop-q.invariant.still p le (omega arith)

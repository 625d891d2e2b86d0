use Rattle.std.proofs.Common.{arith, inl, inr, length}
use Rattle.std.proofs.lemmas.Bool.{cases_lt}
use Rattle.gate_sim.proofs.Idle.{past_still}
use Rattle.gate_sim.proofs.marked.calm_marked.Goals as goal

pub returns-clause-still : goal.returns-clause-still
returns-clause-still c on q e =
    let end = c.end_of.ensures in
    elim (cases_lt q (length c.args.slots.now)) [
      | inl less ↦ c.calm.ensures.still q (omega arith) (omega arith)
      | inr past ↦ c.calm.ensures.kept q (past_still c.args.slots.now q past)
    ]

use Rattle.std.proofs.Common.{None, arith, inl, inr}
use Rattle.std.proofs.lemmas.Bool.{cases_lt}
use Rattle.std.proofs.lemmas.List.{get_or_past}
use Rattle.gate_sim.proofs.sim.clear_writes.Goals as goal

pub returns : goal.returns
returns c b =
    elim (cases_lt b c.loop-b.b) [
      | inl less ↦ c.loop-b.invariant b less
      | inr past ↦ get_or_past c.loop-b.writes b None (omega arith)
    ]

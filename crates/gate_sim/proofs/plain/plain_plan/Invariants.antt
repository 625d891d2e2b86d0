use Rattle.gate_sim.specs.Inner.Plain.{IsPlain}
use Rattle.gate_sim.proofs.plain.plain_plan.Given as goal

abbrev pub invariant-loop-k : goal.invariant-loop-k
invariant-loop-k l = IsPlain l.nodes l.k l.ops.items l.lanes.items l.places.items l.takes.items

use Rattle.std.proofs.Common.{◌≡◌, ℕ, ◌<◌, None}
use Rattle.netlist.specs.Steps.{write_at}
use Rattle.gate_sim.proofs.sim.clear_writes.Given as goal

abbrev pub invariant-loop-b : goal.invariant-loop-b
invariant-loop-b l = (i : ℕ) → i < l.b → write_at l.writes i ≡ None

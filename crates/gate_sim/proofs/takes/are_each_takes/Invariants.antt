use Rattle.std.proofs.Common.{◌≡◌, ℕ, ◌<◌, Some}
use Rattle.std.specs.Prelude.{slice_get}
use Rattle.gate_sim.specs.declared.plan.Take.{Take}
use Rattle.gate_sim.specs.Inner.Takes.{IsTake}
use Rattle.gate_sim.proofs.takes.are_each_takes.Given as goal

abbrev pub invariant-loop-j : goal.invariant-loop-j
invariant-loop-j l = (i : ℕ) (take : Take) → i < l.j → slice_get l.takes i ≡ Some take → IsTake l.nodes l.n l.lanes l.places take

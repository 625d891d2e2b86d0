use Rattle.std.proofs.Common.{◌≡◌, ℕ, ◌<◌, true}
use Rattle.word16.specs.Words.{has_bit}
use Rattle.gate_sim.specs.Inner.Takes.{IsTakeLane}
use Rattle.gate_sim.proofs.takes.is_take.Given as goal

abbrev pub invariant-loop-l : goal.invariant-loop-l
invariant-loop-l l = (m : ℕ) → m < l.l → has_bit l.take.mask m ≡ true → IsTakeLane l.nodes l.lanes l.places l.take m

use Rattle.std.proofs.Common.{◌≡◌, ◌<◌, ℕ, true}
use Rattle.netlist.specs.Present.{value_in}
use Rattle.gate_sim.proofs.marked.mark_all.Given as goal

abbrev pub invariant-loop-m : goal.invariant-loop-m
invariant-loop-m l = (k : ℕ) → k < l.m → value_in l.marks k ≡ true

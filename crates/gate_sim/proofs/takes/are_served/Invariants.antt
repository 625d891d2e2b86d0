use Rattle.std.proofs.Common.{◌≡◌, ℕ, ◌<◌, Some}
use Rattle.std.specs.Prelude.{slice_get}
use Rattle.netlist.specs.declared.node.Node.TheVariants.{Flip}
use Rattle.gate_sim.specs.Inner.Takes.{IsServed}
use Rattle.gate_sim.proofs.takes.are_served.Given as goal

abbrev pub invariant-loop-k : goal.invariant-loop-k
invariant-loop-k l = (m i : ℕ) → m < l.k → slice_get l.nodes m ≡ Some (Flip i) → IsServed l.places l.takes m

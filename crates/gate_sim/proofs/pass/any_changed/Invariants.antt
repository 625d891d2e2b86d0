use Rattle.std.proofs.Common.{◌≡◌, false, take}
use Rattle.std.specs.List.{list_any}
use Rattle.gate_sim.specs.Inner.Slots.{change_at}
use Rattle.gate_sim.proofs.pass.any_changed.Given as goal

abbrev pub invariant-loop-k : goal.invariant-loop-k
invariant-loop-k l = list_any (change_at l.places l.slots) (take l.k l.nodes) ≡ false

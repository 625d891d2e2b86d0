use Rattle.std.proofs.Common.{◌≡◌, ℕ, ◌<◌, Some}
use Rattle.std.specs.Prelude.{slice_get}
use Rattle.gate_sim.specs.declared.plan.Op.{Op}
use Rattle.gate_sim.specs.Inner.Plans.{IsLane}
use Rattle.gate_sim.proofs.plan.are_ops.Given as goal

abbrev pub invariant-loop-q : goal.invariant-loop-q
invariant-loop-q l = (p : ℕ) (op : Op) → p < l.q → slice_get l.ops p ≡ Some op → (m : ℕ) → m < 16 → IsLane l.nodes l.blocks l.lanes l.places p m op

use Rattle.std.proofs.Common.{◌≡◌, ℕ, ◌<◌, Some}
use Rattle.std.specs.Prelude.{slice_get}
use Rattle.gate_sim.specs.declared.plan.Op.{Op}
use Rattle.gate_sim.specs.Inner.Pieces.{piece_of, IsToldOp}
use Rattle.gate_sim.proofs.pieces.are_ops_told.Given as goal

abbrev pub invariant-loop-q : goal.invariant-loop-q
invariant-loop-q l = (p : ℕ) (op : Op) → p < l.q → slice_get l.ops p ≡ Some op → IsToldOp l.spans l.list l.always (piece_of p) op

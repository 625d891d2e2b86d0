use Rattle.std.proofs.Common.{◌≡◌, ℕ, ◌<◌, ◌+◌, Some}
use Rattle.std.specs.Prelude.{slice_get}
use Rattle.gate_sim.specs.declared.plan.Take.{Take}
use Rattle.gate_sim.specs.Inner.Pieces.{piece_of, IsReader}
use Rattle.gate_sim.proofs.pieces.are_takes_told.Given as goal

abbrev pub invariant-loop-t : goal.invariant-loop-t
invariant-loop-t l = (j : ℕ) (take : Take) → j < l.t → slice_get l.takes j ≡ Some take → IsReader l.spans l.list take.source (l.before + piece_of j)

use Rattle.std.proofs.Common.{◌≡◌, ℕ, ◌<◌, Some}
use Rattle.std.specs.Prelude.{slice_get}
use Rattle.hdl_loops.specs.Inner.Bundles.{AreRight, HasDoor}
use Rattle.hdl_loops.specs.declared.bundle.Bundle.{Bundle}
use Rattle.hdl_loops.specs.declared.joint.Joint.{Joint}
use Rattle.hdl_loops.proofs.doors.Doors.of.Given as goal

abbrev pub invariant-loop-g : goal.invariant-loop-g
invariant-loop-g l = record {
  right : AreRight l.graph l.doors;
  all : (g : ℕ) → g < l.g → (j : ℕ) (b : Bundle) (a : Joint) → slice_get l.graph g ≡ Some b → slice_get b.enters.items j ≡ Some a → HasDoor l.doors g j;
}

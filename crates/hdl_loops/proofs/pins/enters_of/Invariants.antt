use Rattle.std.proofs.Common.{◌≡◌, ℕ, ◌<◌, Some, true}
use Rattle.std.specs.Prelude.{slice_get}
use Rattle.hdl_loops.specs.Inner.Ties.{In}
use Rattle.hdl_loops.specs.declared.joint.Joint.{Joint}
use Rattle.hdl_loops.proofs.pins.enters_of.Given as goal

abbrev pub invariant-loop-joint : goal.invariant-loop-joint
invariant-loop-joint l = record {
  only : (j : Joint) → In j l.found.items → In j l.joints × (j.input ≡ true);
  all : (q : ℕ) → q < l.joint-index → (j : Joint) → slice_get l.joints q ≡ Some j → j.input ≡ true → In j l.found.items;
}

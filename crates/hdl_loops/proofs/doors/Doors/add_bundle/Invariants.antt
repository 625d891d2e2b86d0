use Rattle.std.proofs.Common.{ℕ, ◌<◌}
use Rattle.hdl_loops.specs.Inner.Bundles.{AreRight, KeepsDoors, HasDoor}
use Rattle.hdl_loops.proofs.doors.Doors.add_bundle.Given as goal

abbrev pub invariant-loop-j : goal.invariant-loop-j
invariant-loop-j l = record {
  right : AreRight l.graph l.self;
  kept : KeepsDoors l.initial.self l.self;
  there : (j : ℕ) → j < l.j → HasDoor l.self l.g j;
}

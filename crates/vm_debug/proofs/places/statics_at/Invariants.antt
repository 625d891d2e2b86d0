-- The statics so far have been added.
use Rattle.std.proofs.Common.{◌≡◌, ◌++◌, drop}
use Rattle.vm_debug.specs.Places.{placed_statics}
use Rattle.vm_debug.proofs.places.statics_at.Given as goal

abbrev pub invariant-loop-k : goal.invariant-loop-k
invariant-loop-k l = l.placed ++ placed_statics l.first l.words l.k (drop l.k l.names) ≡ placed_statics l.first l.words 0 l.names

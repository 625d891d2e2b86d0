use Rattle.std.proofs.Common.{length}
use Rattle.outer_world.specs.Entries.{entries_of}
use Rattle.outer_world.proofs.Listed.{AreReadTo}
use Rattle.outer_world.proofs.standard.texts_of_names.Given as goal

abbrev pub invariant-loop-entry : goal.invariant-loop-entry
invariant-loop-entry l = AreReadTo (entries_of l.entries) l.names.items (length l.yielded)

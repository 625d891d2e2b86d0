-- The function has not been among those so far.
use Rattle.std.proofs.Common.{◌≡◌, drop}
use Rattle.vm_debug.specs.Places.{entry_from, entry_of}
use Rattle.vm_debug.proofs.places.entry.Given as goal

abbrev pub invariant-loop-k : goal.invariant-loop-k
invariant-loop-k l = entry_from l.k (drop l.k l.functions) l.entries l.number ≡ entry_of l.functions l.entries l.number

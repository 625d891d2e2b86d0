-- The classes so far have been added.
use Rattle.std.proofs.Common.{◌≡◌, ◌+◌, ◌++◌, drop, length}
use Rattle.vm_debug.specs.Places.{placed_subs}
use Rattle.vm_debug.proofs.places.add_subs.Given as goal

abbrev pub invariant-loop-i : goal.invariant-loop-i
invariant-loop-i l =
    l.subs ++ placed_subs l.functions l.entries (l.first + l.i) (length l.subs + 1) (drop l.i l.classes)
    ≡ l.initial.subs ++ placed_subs l.functions l.entries l.first (length l.initial.subs + 1) l.classes

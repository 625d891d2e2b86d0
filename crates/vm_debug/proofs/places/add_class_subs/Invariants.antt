-- The subroutines so far have been added.
use Rattle.std.proofs.Common.{◌≡◌, ◌+◌, ◌++◌, drop, length}
use Rattle.vm_debug.specs.Places.{class_subs}
use Rattle.vm_debug.proofs.places.add_class_subs.Given as goal

abbrev pub invariant-loop-sub : goal.invariant-loop-sub
invariant-loop-sub l =
    l.subs ++ class_subs l.functions l.entries l.k l.class.name.text (length l.subs + 1) (drop l.sub-index l.class.subroutines.items)
    ≡ l.initial.subs ++ class_subs l.functions l.entries l.k l.class.name.text (length l.initial.subs + 1) l.class.subroutines.items

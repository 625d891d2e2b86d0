-- The classes so far have been added.
use Rattle.std.proofs.Common.{◌≡◌, ◌++◌, drop, length}
use Rattle.vm_debug.specs.Places.{placed_classes}
use Rattle.vm_debug.proofs.places.add_classes.Given as goal

abbrev pub invariant-loop-class : goal.invariant-loop-class
invariant-loop-class l = l.placed ++ placed_classes l.files l.own (length l.placed) (drop l.class-index l.classes) ≡ l.initial.placed ++ placed_classes l.files l.own (length l.initial.placed) l.classes

-- The tables so far have been added.
use Rattle.std.proofs.Common.{◌≡◌, ◌++◌, drop, map}
use Rattle.vm_debug.specs.Places.{trees_of}
use Rattle.vm_debug.specs.Inner.Tables.{table_of}
use Rattle.vm_debug.proofs.places.add_tables.Given as goal

abbrev pub invariant-loop-class : goal.invariant-loop-class
invariant-loop-class l = l.tables ++ map table_of (trees_of (drop l.class-index l.classes)) ≡ l.initial.tables ++ map table_of (trees_of l.classes)

-- The tables so far have been added.
use Rattle.std.proofs.Common.{◌≡◌, ◌++◌, drop, map}
use Rattle.vm_debug.specs.Inner.Tables.{table_of}
use Rattle.vm_debug.proofs.places.add_sub_tables.Given as goal

abbrev pub invariant-loop-sub : goal.invariant-loop-sub
invariant-loop-sub l = l.tables ++ map table_of (drop l.sub-index l.subs) ≡ l.initial.tables ++ map table_of l.subs

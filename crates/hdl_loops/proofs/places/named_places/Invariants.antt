use Rattle.std.proofs.Common.{◌≡◌, ℕ, ◌++◌, List, length}
use Rattle.name_table.specs.Names.{find_value}
use Rattle.name_table.specs.Tables.{table_of}
use Rattle.std.proofs.Common.{◌+◌}
use Rattle.hdl_check.specs.Inner.Progress.{numbered_entries}
use Rattle.hdl_loops.proofs.places.named_places.Given as goal

abbrev pub invariant-loop-entry : goal.invariant-loop-entry
invariant-loop-entry l = record {
  left : (x : List ℕ) → find_value x (table_of l.names ++ numbered_entries l.k l.rest) ≡ find_value x (numbered_entries 0 l.entries);
  many : l.k + length l.rest ≡ length l.entries;
}

abbrev pub decreases-loop-entry : goal.decreases-loop-entry
decreases-loop-entry l = length l.rest

use Rattle.std.proofs.Common.{◌≡◌, ◌+◌, length}
use Rattle.name_table.specs.Tables.{table_of}
use Rattle.jack_names.specs.Symbols.{line_entries}
use Rattle.jack_names.specs.Inner.Named.{with_all, slot_at}
use Rattle.jack_names.proofs.variables.enter_list.Given as goal

abbrev pub invariant-loop-name : goal.invariant-loop-name
invariant-loop-name l = record {
  whole : with_all (table_of l.table) (line_entries (slot_at l.sort) l.class l.k l.rest) ≡ with_all (table_of l.fn.table) (line_entries (slot_at l.sort) l.class l.first l.names);
  counted : l.k + length l.rest ≡ l.first + length l.names;
}

abbrev pub decreases-loop-name : goal.decreases-loop-name
decreases-loop-name l = length l.rest

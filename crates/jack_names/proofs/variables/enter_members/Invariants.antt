use Rattle.std.proofs.Common.{◌≡◌, ◌+◌, length}
use Rattle.name_table.specs.Tables.{table_of}
use Rattle.jack_names.specs.Symbols.{member_entries, fields_of, statics_of}
use Rattle.jack_names.specs.Inner.Named.{with_all, the_symbols}
use Rattle.jack_names.proofs.variables.enter_members.Given as goal

abbrev pub invariant-loop-line : goal.invariant-loop-line
invariant-loop-line l = record {
  whole : with_all (table_of l.table) (member_entries (the_symbols l.names) l.fields l.statics l.rest) ≡ with_all (table_of l.fn.table) (member_entries (the_symbols l.names) 0 l.first l.variables);
  fields : l.fields + fields_of l.rest ≡ fields_of l.variables;
  statics : l.statics + statics_of l.rest ≡ l.first + statics_of l.variables;
}

abbrev pub decreases-loop-line : goal.decreases-loop-line
decreases-loop-line l = length l.rest

use Rattle.std.proofs.Common.{◌≡◌, ◌+◌, length}
use Rattle.name_table.specs.Tables.{table_of}
use Rattle.jack_names.specs.Symbols.{local_entries, locals_of}
use Rattle.jack_names.specs.Inner.Named.{with_all, the_symbols}
use Rattle.jack_names.proofs.variables.enter_locals.Given as goal

abbrev pub invariant-loop-line : goal.invariant-loop-line
invariant-loop-line l = record {
  whole : with_all (table_of l.table) (local_entries (the_symbols l.names) l.k l.rest) ≡ with_all (table_of l.fn.table) (local_entries (the_symbols l.names) l.first l.locals);
  counted : l.k + locals_of l.rest ≡ l.first + locals_of l.locals;
}

abbrev pub decreases-loop-line : goal.decreases-loop-line
decreases-loop-line l = length l.rest

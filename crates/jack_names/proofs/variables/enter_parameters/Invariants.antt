use Rattle.std.proofs.Common.{◌≡◌, ◌+◌, length}
use Rattle.name_table.specs.Tables.{table_of}
use Rattle.jack_names.specs.Symbols.{parameter_entries}
use Rattle.jack_names.specs.Inner.Named.{with_all, the_symbols}
use Rattle.jack_names.proofs.variables.enter_parameters.Given as goal

abbrev pub invariant-loop-parameter : goal.invariant-loop-parameter
invariant-loop-parameter l = record {
  whole : with_all (table_of l.table) (parameter_entries (the_symbols l.names) l.k l.rest) ≡ with_all (table_of l.fn.table) (parameter_entries (the_symbols l.names) l.first l.parameters);
  counted : l.k + length l.rest ≡ l.first + length l.parameters;
}

abbrev pub decreases-loop-parameter : goal.decreases-loop-parameter
decreases-loop-parameter l = length l.rest

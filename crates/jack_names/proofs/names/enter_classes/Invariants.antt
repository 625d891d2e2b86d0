use Rattle.std.proofs.Common.{◌≡◌, ◌+◌, length}
use Rattle.name_table.specs.Tables.{table_of}
use Rattle.jack_names.specs.Symbols.{class_numbers}
use Rattle.jack_names.specs.Inner.Named.{with_all}
use Rattle.jack_names.proofs.names.enter_classes.Given as goal

abbrev pub invariant-loop-class : goal.invariant-loop-class
invariant-loop-class l = record {
  whole : with_all (table_of l.table) (class_numbers l.number l.rest) ≡ with_all (table_of l.fn.table) (class_numbers l.first l.classes);
  counted : l.number + length l.rest ≡ l.first + length l.classes;
}

abbrev pub decreases-loop-class : goal.decreases-loop-class
decreases-loop-class l = length l.rest

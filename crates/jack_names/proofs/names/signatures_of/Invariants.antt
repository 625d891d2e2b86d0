use Rattle.std.proofs.Common.{◌≡◌, ◌+◌, [], length}
use Rattle.name_table.specs.Tables.{table_of}
use Rattle.jack_names.specs.Symbols.{signatures}
use Rattle.jack_names.specs.Inner.Named.{with_all}
use Rattle.jack_names.proofs.names.signatures_of.Given as goal

abbrev pub invariant-loop-s : goal.invariant-loop-s
invariant-loop-s l = record {
  whole : with_all (table_of l.table) (signatures l.number l.rest) ≡ with_all [] (signatures l.first l.subroutines);
  counted : l.number + length l.rest ≡ l.first + length l.subroutines;
}

abbrev pub decreases-loop-s : goal.decreases-loop-s
decreases-loop-s l = length l.rest

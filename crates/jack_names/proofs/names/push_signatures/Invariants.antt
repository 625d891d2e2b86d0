use Rattle.std.proofs.Common.{◌≡◌, ◌+◌, ◌++◌, [], length, map}
use Rattle.name_table.specs.Tables.{table_of}
use Rattle.jack_names.specs.Symbols.{all_signatures}
use Rattle.jack_names.specs.Limits.{subroutine_count}
use Rattle.jack_names.specs.Inner.Named.{with_all}
use Rattle.jack_names.proofs.names.push_signatures.Given as goal

abbrev pub invariant-loop-class : goal.invariant-loop-class
invariant-loop-class l = record {
  whole : map table_of l.tables.items ++ map (with_all []) (all_signatures l.number l.rest) ≡ map table_of l.fn.tables.items ++ map (with_all []) (all_signatures l.first l.classes);
  counted : l.number + subroutine_count l.rest ≡ l.first + subroutine_count l.classes;
}

abbrev pub decreases-loop-class : goal.decreases-loop-class
decreases-loop-class l = length l.rest

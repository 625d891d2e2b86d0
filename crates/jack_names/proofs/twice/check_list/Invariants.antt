use Rattle.std.proofs.Common.{◌≡◌, ◌++◌, length}
use Rattle.name_table.specs.Names.{names_in}
use Rattle.name_table.specs.Tables.{table_of}
use Rattle.jack_names.specs.Inner.Filed.{the_file}
use Rattle.jack_names.specs.Inner.Twice.{first_twice, texts_of}
use Rattle.jack_names.proofs.twice.check_list.Given as goal

abbrev pub invariant-loop-name : goal.invariant-loop-name
invariant-loop-name l = record {
  left : first_twice (the_file l.file) l.kind (names_in (table_of l.seen)) l.rest ≡ first_twice (the_file l.file) l.kind (names_in (table_of l.fn.seen)) l.names;
  seen : names_in (table_of l.seen) ++ texts_of l.rest ≡ names_in (table_of l.fn.seen) ++ texts_of l.names;
}

abbrev pub decreases-loop-name : goal.decreases-loop-name
decreases-loop-name l = length l.rest

use Rattle.std.proofs.Common.{◌≡◌, length}
use Rattle.name_table.specs.Names.{names_in}
use Rattle.name_table.specs.Tables.{table_of}
use Rattle.jack_names.specs.Inner.Filed.{the_file}
use Rattle.jack_names.specs.Inner.Twice.{members_twice}
use Rattle.jack_names.proofs.twice.check_lines.Given as goal

abbrev pub invariant-loop-line : goal.invariant-loop-line
invariant-loop-line l = members_twice (the_file l.file) (names_in (table_of l.seen)) l.rest ≡ members_twice (the_file l.file) (names_in (table_of l.fn.seen)) l.variables

abbrev pub decreases-loop-line : goal.decreases-loop-line
decreases-loop-line l = length l.rest

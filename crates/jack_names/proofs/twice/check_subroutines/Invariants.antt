use Rattle.std.proofs.Common.{◌≡◌, length}
use Rattle.name_table.specs.Names.{names_in}
use Rattle.name_table.specs.Tables.{table_of}
use Rattle.jack_names.specs.Inner.Filed.{the_file}
use Rattle.jack_names.specs.Inner.Twice.{subroutines_fault}
use Rattle.jack_names.proofs.twice.check_subroutines.Given as goal

abbrev pub invariant-loop-s : goal.invariant-loop-s
invariant-loop-s l = subroutines_fault (the_file l.file) (names_in (table_of l.seen)) l.rest ≡ subroutines_fault (the_file l.file) (names_in (table_of l.fn.seen)) l.subroutines

abbrev pub decreases-loop-s : goal.decreases-loop-s
decreases-loop-s l = length l.rest

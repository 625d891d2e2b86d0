use Rattle.std.proofs.Common.{◌≡◌, length}
use Rattle.name_table.specs.Names.{names_in}
use Rattle.name_table.specs.Tables.{table_of}
use Rattle.jack_names.specs.Inner.Twice.{declarations_fault}
use Rattle.jack_names.proofs.twice.check_declarations.Given as goal

abbrev pub invariant-loop-class : goal.invariant-loop-class
invariant-loop-class l = declarations_fault l.shipped (names_in (table_of l.seen)) l.rest ≡ declarations_fault l.shipped (names_in (table_of l.fn.seen)) l.classes

abbrev pub decreases-loop-class : goal.decreases-loop-class
decreases-loop-class l = length l.rest

use Rattle.std.proofs.Common.{◌≡◌, length}
use Rattle.name_table.specs.Tables.{table_of}
use Rattle.jack_names.specs.Inner.Named.{with_all, marks}
use Rattle.jack_names.proofs.program.mark_classes.Given as goal

abbrev pub invariant-loop-class : goal.invariant-loop-class
invariant-loop-class l = with_all (table_of l.seen) (marks l.rest) ≡ with_all (table_of l.fn.seen) (marks l.classes)

abbrev pub decreases-loop-class : goal.decreases-loop-class
decreases-loop-class l = length l.rest

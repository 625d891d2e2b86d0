use Rattle.std.proofs.Common.{◌≡◌, ◌++◌, length}
use Rattle.jack_names.specs.declared.fault.NameKind.TheVariants.{VariableTwice}
use Rattle.name_table.specs.Names.{names_in}
use Rattle.name_table.specs.Tables.{table_of}
use Rattle.jack_names.specs.Inner.Filed.{the_file}
use Rattle.jack_names.specs.Inner.Twice.{first_twice, texts_of, parameter_names}
use Rattle.jack_names.proofs.twice.check_parameters.Given as goal

abbrev pub invariant-loop-parameter : goal.invariant-loop-parameter
invariant-loop-parameter l = record {
  left : first_twice (the_file l.file) VariableTwice (names_in (table_of l.seen)) (parameter_names l.rest) ≡ first_twice (the_file l.file) VariableTwice (names_in (table_of l.fn.seen)) (parameter_names l.parameters);
  seen : names_in (table_of l.seen) ++ texts_of (parameter_names l.rest) ≡ names_in (table_of l.fn.seen) ++ texts_of (parameter_names l.parameters);
}

abbrev pub decreases-loop-parameter : goal.decreases-loop-parameter
decreases-loop-parameter l = length l.rest

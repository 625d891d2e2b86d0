use Rattle.std.proofs.Common.{refl}
use Rattle.jack_tests.proofs.Calls.{are_there}
use Rattle.jack_tests.proofs.programs.core.Goals as goal

pub returns : goal.returns
returns c = are_there (record { classes = c.in_ok-classes.field-0; subroutines = c.in_ok-subroutines.field-0; init = 1 }) c.in_ok-subroutines.ensures refl

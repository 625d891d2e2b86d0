use Rattle.jack_compiler.proofs.Calls.{calls_are_there}
use Rattle.os_tests.proofs.programs.program_of.Goals as goal

pub returns-in-Ok-clause-there : goal.returns-in-Ok-clause-there
returns-in-Ok-clause-there c = calls_are_there c.in-Ok.core c.in-Ok.ensures.resolved

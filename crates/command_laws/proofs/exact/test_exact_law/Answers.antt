use Rattle.command_laws.proofs.TestExactly.{test_exact}
use Rattle.command_laws.proofs.exact.test_exact_law.Goals as goal

pub returns : goal.returns
returns c = test_exact c.script_exact_law.ensures

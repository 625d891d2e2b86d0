use Rattle.history_laws.proofs.Given.{given_inputs}
use Rattle.history_laws.proofs.inputs_law.Goals as goal

pub returns : goal.returns
returns c = given_inputs

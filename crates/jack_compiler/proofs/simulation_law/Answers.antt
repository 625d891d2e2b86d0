use Rattle.jack_compiler.proofs.Starts.{simulation}
use Rattle.jack_compiler.proofs.simulation_law.Goals as goal

pub returns : goal.returns
returns c = simulation

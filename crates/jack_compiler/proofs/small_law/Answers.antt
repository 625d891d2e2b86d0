use Rattle.jack_compiler.proofs.Small.{small}
use Rattle.jack_compiler.proofs.small_law.Goals as goal

pub returns : goal.returns
returns c = small

use Rattle.jack_compiler.proofs.Seam.{compiled}
use Rattle.jack_compiler.proofs.compiled_law.Goals as goal

pub returns : goal.returns
returns c = compiled

use Rattle.std.proofs.Common.{refl}
use Rattle.jack_os.specs.System.{system}
use Rattle.jack_os.proofs.reading.texts.Goals as goal

pub returns : goal.returns
unfolding system
returns c = refl

use Rattle.std.proofs.Common.{refl}
use Rattle.jack_debug.proofs.rows_law.Goals as goal

pub returns : goal.returns
returns c = record { by_name = refl; nested = refl }

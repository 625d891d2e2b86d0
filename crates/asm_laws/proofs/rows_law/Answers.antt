use Rattle.std.proofs.Common.{refl}
use Rattle.asm_laws.proofs.rows_law.Goals as goal

pub returns : goal.returns
returns c = record { symbols_have = refl; label_behind = refl; first_of_two = refl }

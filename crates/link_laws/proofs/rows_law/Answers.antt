use Rattle.std.proofs.Common.{refl}
use Rattle.link_laws.proofs.rows_law.Goals as goal

pub returns : goal.returns
returns c = record { twice_defined = refl; label_twice = refl; no_label = refl; no_start = refl; none = refl; no_function = refl; too_many = refl }

-- What classes that some texts spell keep to, and how much they declare together.
use Rattle.std.proofs.Common.{◌≤◌, ◌*◌, List, [], ◌∷◌, length, arith}
use Rattle.jack_tree.specs.declared.tree.Class.{Class}
use Rattle.jack_names.specs.Limits.{AreWithin, subroutine_count}
use Rattle.tower.specs.Read.{AreReadClasses}
use Rattle.tower.specs.Spelled.{AreSpelled, ReadLaw}

pub spelled_are_read : ReadLaw → (cs : List Class) → AreSpelled cs → AreReadClasses cs
spelled_are_read law [] h = tt
spelled_are_read law (c ∷ cs) h = (law c h.0, spelled_are_read law cs h.1)

pub read_within : (cs : List Class) → AreReadClasses cs → AreWithin cs
read_within [] h = tt
read_within (c ∷ cs) h = (h.0.within, read_within cs h.1)

pub few_subroutines : (cs : List Class) → AreReadClasses cs → subroutine_count cs ≤ 1048576 * length cs
few_subroutines [] h = omega arith
few_subroutines (c ∷ cs) h = omega (arith, h.0.few, few_subroutines cs h.1)

-- How many values are left, a part later.
use Rattle.std.proofs.Common.{◌≡◌, ℕ, ◌+◌, ◌-◌, ◌≤◌, List, [], ◌∷◌, ◌++◌, Some, ◌∙◌}
use Rattle.jack_core.specs.declared.tree.Part.{Part}
use Rattle.jack_core.specs.Heights.{takes, height}
use Rattle.jack_core.proofs.Postfix.{height_more, height_first}

pub height_put : (h k : ℕ) (ps : List Part) (p : Part) → height h ps ≡ Some k → takes p ≤ k → height h (ps ++ p ∷ []) ≡ Some (k - takes p + 1)
height_put h k ps p e le = height_more h k ps (p ∷ []) e ∙ height_first k p [] le

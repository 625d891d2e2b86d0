-- What becomes of the front of a text.
use Rattle.std.specs.Prelude.{◌≡◌, ℕ, ◌+◌, List, [], ◌∷◌, ◌++◌}
use Rattle.jack_core.specs.declared.tree.Part.{Part}
use Rattle.jack_machine.specs.Looks.{spared_values}
use Rattle.jack_machine.specs.declared.fronts.First.{First}
use Rattle.jack_machine.specs.declared.fronts.Front.{Front}

-- nothing has changed that the meaning sees
pub record IsSameFront (old new : Front) : Type 0 where
  pub first : new.first ≡ old.first
  pub done : new.done ≡ old.done
  pub values : new.values.items ≡ old.values.items

-- one part more is done, and this value stands in place of its operands
pub record IsPut (p : Part) (w : ℕ) (old new : Front) : Type 0 where
  pub first : new.first ≡ old.first
  pub done : new.done ≡ old.done + 1
  pub values : new.values.items ≡ spared_values p old.values.items ++ w ∷ []

-- a value in place of the last of values, if there is one
abbrev pub with_last : ℕ → List ℕ → List ℕ
with_last w [] = []
with_last w (x ∷ []) = w ∷ []
with_last w (x ∷ y ∷ ws) = x ∷ with_last w (y ∷ ws)

pub record IsFilled (w : ℕ) (old new : Front) : Type 0 where
  pub first : new.first ≡ old.first
  pub done : new.done ≡ old.done
  pub values : new.values.items ≡ with_last w old.values.items

-- this comes first, and nothing of it is done
pub record IsBegun (first : First) (new : Front) : Type 0 where
  pub is_first : new.first ≡ first
  pub done : new.done ≡ 0
  pub values : new.values.items ≡ []

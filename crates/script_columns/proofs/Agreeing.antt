-- Lines of two lengths.
use Rattle.std.proofs.Common.{◌≡◌, ℕ, suc, Bool, true, false, List, [], ◌∷◌, length, refl, ap}
use Rattle.std.specs.Prelude.{◌&&◌}
use Rattle.script_columns.specs.Comparison.{agrees, stands_for}

false_behind : (b r : Bool) → r ≡ false → (b && r) ≡ false
false_behind true r h = h
false_behind false r h = refl

-- lines of two lengths do not agree
pub other_length : (xs ys : List ℕ) → (length xs ≡ length ys → ⊥) → agrees xs ys ≡ false
other_length [] [] h = absurd (h refl)
other_length [] (y ∷ ys) h = refl
other_length (x ∷ xs) [] h = refl
other_length (x ∷ xs) (y ∷ ys) h = false_behind (stands_for x y) (agrees xs ys) (other_length xs ys (λ e. h (ap suc e)))

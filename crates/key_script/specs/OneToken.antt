-- What one token of a key script is, without cutting: a number or a line end. Spaces and tabs may stand between.
use Rattle.std.specs.Prelude.{◌≡◌, ℕ, true, List, [], ◌∷◌}
use Rattle.std.specs.List.{All}
use Rattle.std.specs.Char.{is_ascii_digit}

pub data IsOne : List ℕ → List ℕ → Type 0 where
  ANumber : {d : ℕ} {ds behind : List ℕ} → All (λ c. is_ascii_digit c ≡ true) (d ∷ ds) → IsOne (d ∷ ds) behind
  ALineFeed : {behind : List ℕ} → IsOne (10 ∷ []) behind
  AReturnAndLineFeed : {behind : List ℕ} → IsOne (13 ∷ 10 ∷ []) behind

pub data IsBetween : List ℕ → List ℕ → Type 0 where
  ASpace : {behind : List ℕ} → IsBetween (32 ∷ []) behind
  ATab : {behind : List ℕ} → IsBetween (9 ∷ []) behind

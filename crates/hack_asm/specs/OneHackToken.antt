-- What one token of a `.hack` text is, without cutting: a binary digit or a line end. Nothing may stand between.
use Rattle.std.specs.Prelude.{ℕ, List, [], ◌∷◌}

pub data IsOneHack : List ℕ → List ℕ → Type 0 where
  Zero : {behind : List ℕ} → IsOneHack (48 ∷ []) behind
  One : {behind : List ℕ} → IsOneHack (49 ∷ []) behind
  ALineFeed : {behind : List ℕ} → IsOneHack (10 ∷ []) behind
  AReturnAndLineFeed : {behind : List ℕ} → IsOneHack (13 ∷ 10 ∷ []) behind

abbrev pub HasNoneBetween : List ℕ → List ℕ → Type 0
HasNoneBetween bs behind = ⊥

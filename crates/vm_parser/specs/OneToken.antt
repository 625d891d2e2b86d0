-- What one token of a VM text is, without cutting (book, chapters 7 and 8): a word, `if-goto`, a number, or a line end.
use Rattle.std.specs.Prelude.{◌≡◌, ℕ, true, List, [], ◌∷◌, codes, ◌⊎◌}
use Rattle.std.specs.List.{All, Contains}
use Rattle.std.specs.Char.{is_ascii_alphabetic, is_ascii_digit}

-- a letter, or one of these signs
abbrev pub IsNameStart : ℕ → Type 0
IsNameStart b = (is_ascii_alphabetic b ≡ true) ⊎ Contains (codes "_.$:") b

pub data IsOne : List ℕ → List ℕ → Type 0 where
  AWord : {b : ℕ} {bs behind : List ℕ} → IsNameStart b → All (λ c. IsNameStart c ⊎ (is_ascii_digit c ≡ true)) bs → IsOne (b ∷ bs) behind
  IfGoto : {behind : List ℕ} → IsOne (codes "if-goto") behind
  ANumber : {d : ℕ} {ds behind : List ℕ} → All (λ c. is_ascii_digit c ≡ true) (d ∷ ds) → IsOne (d ∷ ds) behind
  ALineFeed : {behind : List ℕ} → IsOne (10 ∷ []) behind
  AReturnAndLineFeed : {behind : List ℕ} → IsOne (13 ∷ 10 ∷ []) behind

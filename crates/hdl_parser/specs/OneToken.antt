-- What one token of an HDL text is, without cutting (book, appendix 2): keywords and names are words.
use Rattle.std.specs.Prelude.{◌≡◌, ℕ, true, List, [], ◌∷◌, codes, ◌⊎◌}
use Rattle.std.specs.List.{All, Contains}
use Rattle.std.specs.Char.{is_ascii_alphabetic, is_ascii_digit}

-- a letter or an underscore
abbrev pub IsNameStart : ℕ → Type 0
IsNameStart b = (is_ascii_alphabetic b ≡ true) ⊎ (b ≡ 95)

pub data IsOne : List ℕ → List ℕ → Type 0 where
  AWord : {b : ℕ} {bs behind : List ℕ} → IsNameStart b → All (λ c. IsNameStart c ⊎ (is_ascii_digit c ≡ true)) bs → IsOne (b ∷ bs) behind
  ANumber : {d : ℕ} {ds behind : List ℕ} → All (λ c. is_ascii_digit c ≡ true) (d ∷ ds) → IsOne (d ∷ ds) behind
  ASymbol : {b : ℕ} {behind : List ℕ} → Contains (codes "{}()[],;:=") b → IsOne (b ∷ []) behind
  TwoDots : {behind : List ℕ} → IsOne (46 ∷ 46 ∷ []) behind

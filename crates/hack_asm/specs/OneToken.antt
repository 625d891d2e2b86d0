-- What one token of an assembly text is, without cutting (book, chapter 6). It is a symbol, a number, a sign,
-- `<<` or `>>`, which are not the book's, or a line end.
use Rattle.std.specs.Prelude.{◌≡◌, ℕ, true, List, [], ◌∷◌, codes, ◌⊎◌}
use Rattle.std.specs.List.{All, Contains}
use Rattle.std.specs.Char.{is_ascii_alphabetic, is_ascii_digit}

-- a letter, or one of these signs
abbrev pub IsSymbolStart : ℕ → Type 0
IsSymbolStart b = (is_ascii_alphabetic b ≡ true) ⊎ Contains (codes "_.$:") b

pub data IsOne : List ℕ → List ℕ → Type 0 where
  ASymbol : {b : ℕ} {bs behind : List ℕ} → IsSymbolStart b → All (λ c. IsSymbolStart c ⊎ (is_ascii_digit c ≡ true)) bs → IsOne (b ∷ bs) behind
  ANumber : {d : ℕ} {ds behind : List ℕ} → All (λ c. is_ascii_digit c ≡ true) (d ∷ ds) → IsOne (d ∷ ds) behind
  ASign : {b : ℕ} {behind : List ℕ} → Contains (codes "@()=;+-!&|") b → IsOne (b ∷ []) behind
  ALeftShift : {behind : List ℕ} → IsOne (60 ∷ 60 ∷ []) behind
  ARightShift : {behind : List ℕ} → IsOne (62 ∷ 62 ∷ []) behind
  ALineFeed : {behind : List ℕ} → IsOne (10 ∷ []) behind
  AReturnAndLineFeed : {behind : List ℕ} → IsOne (13 ∷ 10 ∷ []) behind

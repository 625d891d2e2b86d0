-- What one token of a Jack text is, without cutting (book, chapter 10, figure 10.5): keywords and identifiers are words, and a string
-- has its quotes. A slash is a symbol unless a comment begins with it.
use Rattle.std.specs.Prelude.{◌≡◌, ℕ, ◌≤◌, true, List, [], ◌∷◌, ◌++◌, codes, ◌⊎◌}
use Rattle.std.specs.List.{All, Contains}
use Rattle.std.specs.Char.{is_ascii_alphabetic, is_ascii_digit}
use Rattle.grammar.specs.Between.{OpensComment}

-- a letter or an underscore
abbrev pub IsNameStart : ℕ → Type 0
IsNameStart b = (is_ascii_alphabetic b ≡ true) ⊎ (b ≡ 95)

-- a tab or a printable character of ASCII, but no double quote
abbrev pub IsInText : ℕ → Type 0
IsInText b = ((b ≡ 9) ⊎ ((32 ≤ b) × (b ≤ 126))) × (b ≡ 34 → ⊥)

pub data IsOne : List ℕ → List ℕ → Type 0 where
  AWord : {b : ℕ} {bs behind : List ℕ} → IsNameStart b → All (λ c. IsNameStart c ⊎ (is_ascii_digit c ≡ true)) bs → IsOne (b ∷ bs) behind
  AnInteger : {d : ℕ} {ds behind : List ℕ} → All (λ c. is_ascii_digit c ≡ true) (d ∷ ds) → IsOne (d ∷ ds) behind
  ASymbol : {b : ℕ} {behind : List ℕ} → Contains (codes "{}()[].,;+-*/&|<>=~^#") b → (b ≡ 47 → OpensComment behind → ⊥) → IsOne (b ∷ []) behind
  AString : (bs : List ℕ) {behind : List ℕ} → All IsInText bs → IsOne (34 ∷ (bs ++ 34 ∷ [])) behind

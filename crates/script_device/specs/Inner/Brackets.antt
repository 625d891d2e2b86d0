-- A name with digits in brackets after it. (The book, appendix 3.)
use Rattle.std.specs.Prelude.{◌≡◌, ◌<◌, ℕ, List, [], ◌∷◌, ◌++◌, length, slice_index}
use Rattle.std.specs.List.{All}
use Rattle.script_device.specs.Variables.{IsDigit}

-- the last bracket of the text that opens stands there
pub record OpensLast (text : List ℕ) (at : ℕ) : Type 0 where
  pub there : at < length text
  pub opens : slice_index text at ≡ 91
  pub last : (k : ℕ) → at < k → slice_index text k ≡ 91 → ⊥

-- no bracket of it opens
abbrev pub OpensNowhere : List ℕ → Type 0
OpensNowhere text = (k : ℕ) → slice_index text k ≡ 91 → ⊥

-- digits alone stand before a bracket that closes at the end
pub record IsClosed (text inside : List ℕ) : Type 0 where
  pub digits : All IsDigit inside
  pub is : text ≡ inside ++ 93 ∷ []

-- the text is a name with such brackets, where there may be no digit
pub record HasBrackets (text name inside : List ℕ) : Type 0 where
  pub digits : All IsDigit inside
  pub is : text ≡ name ++ 91 ∷ (inside ++ 93 ∷ [])

abbrev pub NoBrackets : List ℕ → Type 0
NoBrackets text = (name inside : List ℕ) → HasBrackets text name inside → ⊥

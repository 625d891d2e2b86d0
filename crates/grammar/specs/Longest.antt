-- Longest match, by a language's own account of what one token is and by one of what may stand between tokens. Both speak of no cutting:
-- they are relations of some bytes and those that stand after them.
use Rattle.std.specs.Prelude.{◌≡◌, ℕ, suc, List, ◌∷◌, ◌++◌, drop, take, length, min, ◌<◌, ◌≤◌, ◌⊎◌}
use Rattle.scan_text.specs.declared.Place.{Place}
use Rattle.scan_text.specs.Text.{digits, decimal}
use Rattle.grammar.specs.declared.Fault.{Fault}
use Rattle.grammar.specs.declared.Fault.TheVariants.{Grammar, Range}
use Rattle.grammar.specs.Cutting.{Piece, Passed, Token, Wrong}

-- What is cut off is one token, and no longer front of what is left is one. No front is one where bytes are passed over, nor where
-- nothing may stand.
pub record CutsLongest {T : Type 0} (IsOne : List ℕ → List ℕ → Type 0) (piece : List ℕ → Piece T) : Type 0 where
  pub one : (bs : List ℕ) (t : Place → T) (n : ℕ) → piece bs ≡ Token t n
      → (suc n ≤ length bs) × IsOne (take (suc n) bs) (drop (suc n) bs)
  pub longest : (bs : List ℕ) (t : Place → T) (n m : ℕ) → piece bs ≡ Token t n → suc n < m
      → m ≤ length bs → IsOne (take m bs) (drop m bs) → ⊥
  pub passed : (bs : List ℕ) (n m : ℕ) → piece bs ≡ Passed n → m ≤ length bs
      → IsOne (take m bs) (drop m bs) → ⊥
  pub none : (bs : List ℕ) (m : ℕ) → piece bs ≡ Wrong Grammar → m ≤ length bs
      → IsOne (take m bs) (drop m bs) → ⊥

-- What is passed over may stand between tokens, and what may stand there is passed over, no more and no less.
pub record PassesOver {T : Type 0} (IsBetween : List ℕ → List ℕ → Type 0) (piece : List ℕ → Piece T) : Type 0 where
  pub one : (b : ℕ) (bs : List ℕ) (n : ℕ) → piece (b ∷ bs) ≡ Passed n
      → (n ≤ length bs) × IsBetween (b ∷ take n bs) (drop n bs)
  pub all : (b : ℕ) (bs behind : List ℕ) → IsBetween (b ∷ bs) behind
      → piece (b ∷ (bs ++ behind)) ≡ Passed (length bs)

-- Nothing else is wrong than what is Grammar, and the number that begins there, where it is past its limit (Past). That is always wrong.
pub record RefusesPast {T : Type 0} (Past : List ℕ → (Place → Fault) → Type 0) (piece : List ℕ → Piece T) : Type 0 where
  pub only : (bs : List ℕ) (f : Place → Fault) → piece bs ≡ Wrong f → (f ≡ Grammar) ⊎ Past bs f
  pub all : (bs : List ℕ) (f : Place → Fault) → Past bs f → piece bs ≡ Wrong f

-- the number that begins there is past this limit, which is reported with its value
abbrev pub IsOver : ℕ → List ℕ → (Place → Fault) → Type 0
IsOver limit bs f = (limit < decimal 0 (digits bs)) × (f ≡ λ at. Range at (min (decimal 0 (digits bs)) 1000000000))

-- no number has a limit
abbrev pub HasNoLimit : List ℕ → (Place → Fault) → Type 0
HasNoLimit bs f = ⊥

-- The law of a language's tokens.
pub record IsLongestMatch {T : Type 0} (IsOne IsBetween : List ℕ → List ℕ → Type 0) (Past : List ℕ → (Place → Fault) → Type 0) (piece : List ℕ → Piece T) : Type 0 where
  pub cuts : CutsLongest IsOne piece
  pub passes : PassesOver IsBetween piece
  pub refuses : RefusesPast Past piece

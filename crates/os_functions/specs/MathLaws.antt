-- Functions of Math (book, chapter 12).
use Rattle.std.specs.Prelude.{◌≡◌, ◌≤◌, ◌<◌, ◌+◌, ◌*◌, ◌^◌, ℕ, [], ◌∷◌, codes, nat_abs, int_lt, if◌then◌else◌}
use Rattle.word16.specs.Words.{signed_value}
use Rattle.jack_core.specs.declared.program.Core.{Core}
use Rattle.jack_meaning.specs.Meaning.{State}
use Rattle.os_laws.specs.Names.{IsShipped}
use Rattle.os_functions.specs.Calls.{CallsNext, Gives, Refuses}

-- how far the signed reading is from 0: of -32,768 the word 32,768, which is read as -32,768 again
abbrev pub absolute : ℕ → ℕ
absolute x = nat_abs (signed_value x)

-- of two words the one whose signed reading is the lesser, and the one whose is the greater
abbrev pub lesser : ℕ → ℕ → ℕ
lesser x y = if int_lt (signed_value x) (signed_value y) then x else y

abbrev pub greater : ℕ → ℕ → ℕ
greater x y = if int_lt (signed_value y) (signed_value x) then x else y

-- the greatest number whose square is at most x
abbrev pub IsRoot : ℕ → ℕ → Type 0
IsRoot x y = (y * y ≤ x) × (x < (y + 1) * (y + 1))

module _ {core : Core} (p : IsShipped core) (s : State) where
  abbrev pub AbsLaw : Type 0
  AbsLaw = (x : ℕ) → x < 2 ^ 16 → (c : CallsNext p (codes "Math") (codes "abs") s (x ∷ [])) → Gives c 8 (absolute x)

  abbrev pub MinLaw : Type 0
  MinLaw = (x y : ℕ) → (c : CallsNext p (codes "Math") (codes "min") s (x ∷ y ∷ [])) → Gives c 7 (lesser x y)

  abbrev pub MaxLaw : Type 0
  MaxLaw = (x y : ℕ) → (c : CallsNext p (codes "Math") (codes "max") s (x ∷ y ∷ [])) → Gives c 7 (greater x y)

  -- of a word whose signed reading isn't negative
  abbrev pub SqrtLaw : Type 0
  SqrtLaw = (x : ℕ) → x < 2 ^ 15 → (c : CallsNext p (codes "Math") (codes "sqrt") s (x ∷ [])) → (y : ℕ) × IsRoot x y × Gives c (14 + 17 * y) y

  -- of one whose is
  abbrev pub SqrtErrorLaw : Type 0
  SqrtErrorLaw = (x : ℕ) → 2 ^ 15 ≤ x → x < 2 ^ 16 → (c : CallsNext p (codes "Math") (codes "sqrt") s (x ∷ [])) → Refuses p c 7 4

pub record MathLaws : Type 0 where
  pub abs : {core : Core} (p : IsShipped core) (s : State) → AbsLaw p s
  pub min : {core : Core} (p : IsShipped core) (s : State) → MinLaw p s
  pub max : {core : Core} (p : IsShipped core) (s : State) → MaxLaw p s
  pub sqrt : {core : Core} (p : IsShipped core) (s : State) → SqrtLaw p s
  pub sqrt_error : {core : Core} (p : IsShipped core) (s : State) → SqrtErrorLaw p s

-- ---- worked values

pub record MathRows : Type 0 where
  pub least : absolute 32768 ≡ 32768
  pub minus_two : absolute 65534 ≡ 2
  pub two : absolute 2 ≡ 2
  pub below_zero : lesser 65535 1 ≡ 65535
  pub above_zero : greater 65535 1 ≡ 1
  pub root : IsRoot 24 4
  pub square : IsRoot 25 5

-- Circles: the points not farther from the centre than the radius (book, chapter 12).
use Rattle.std.specs.Prelude.{◌≡◌, ◌≤◌, ◌<◌, ◌+◌, ◌*◌, ◌^◌, ℕ, List, [], ◌∷◌, codes, length}
use Rattle.word16.specs.Memory.{heap_and_screen_size}
use Rattle.jack_core.specs.declared.program.Core.{Core}
use Rattle.jack_meaning.specs.Meaning.{State}
use Rattle.os_laws.specs.Names.{IsShipped}
use Rattle.os_functions.specs.Calls.{HasStatics, CallsNext, Leaves, Refuses}
use Rattle.os_functions.specs.LineLaws.{distance}
use Rattle.os_functions.specs.RectangleLaws.{IsColoured}
use Rattle.os_functions.specs.ScreenLaws.{colour}

-- the point is on the screen
abbrev pub IsCentre : ℕ → ℕ → Type 0
IsCentre x y = (x < 512) × (y < 256)

-- the whole circle with this centre and radius is
abbrev pub IsCircle : ℕ → ℕ → ℕ → Type 0
IsCircle x y r = (r ≤ x) × (x + r < 512) × (r ≤ y) × (y + r < 256)

-- the point of column x' and row y' is in it, by the squares of the distances
abbrev pub InCircle : ℕ → ℕ → ℕ → ℕ → ℕ → Type 0
InCircle x y r x' y' = distance x x' * distance x x' + distance y y' * distance y y' ≤ r * r

module _ {core : Core} (p : IsShipped core) (s : State) where
  abbrev pub CircleLaw : Type 0
  CircleLaw =
      (h : HasStatics p) (x y r : ℕ) → IsCircle x y r → length s.words ≡ heap_and_screen_size
      → (c : CallsNext p (codes "Screen") (codes "drawCircle") s (x ∷ y ∷ r ∷ []))
      → (words : List ℕ) × IsColoured s.words (InCircle x y r) (colour p s h) words × Leaves c (2000 + 3400 * r) 0 s.statics words

  -- a centre outside
  abbrev pub CentreErrorLaw : Type 0
  CentreErrorLaw =
      (x y r : ℕ) → x < 2 ^ 16 → y < 2 ^ 16 → (IsCentre x y → ⊥) → (c : CallsNext p (codes "Screen") (codes "drawCircle") s (x ∷ y ∷ r ∷ [])) → Refuses p c 13 12

  -- a point of the circle outside, or a radius below 0
  abbrev pub CircleErrorLaw : Type 0
  CircleErrorLaw =
      (x y r : ℕ) → r < 2 ^ 16 → IsCentre x y → (IsCircle x y r → ⊥) → (c : CallsNext p (codes "Screen") (codes "drawCircle") s (x ∷ y ∷ r ∷ [])) → Refuses p c 39 13

pub record CircleLaws : Type 0 where
  pub circle : {core : Core} (p : IsShipped core) (s : State) → CircleLaw p s
  pub centre_error : {core : Core} (p : IsShipped core) (s : State) → CentreErrorLaw p s
  pub circle_error : {core : Core} (p : IsShipped core) (s : State) → CircleErrorLaw p s

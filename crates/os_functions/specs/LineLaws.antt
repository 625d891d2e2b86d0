-- Lines: the points beside the true line between two ends (book, chapter 12; which points stand for it is the system's
-- own rule).
use Rattle.std.specs.Prelude.{◌≡◌, ◌≤◌, ◌<◌, ◌+◌, ◌-◌, ◌*◌, ◌^◌, ◌⊎◌, min, max, ℕ, List, [], ◌∷◌, codes, length}
use Rattle.word16.specs.Memory.{heap_and_screen_size}
use Rattle.jack_core.specs.declared.program.Core.{Core}
use Rattle.jack_meaning.specs.Meaning.{State}
use Rattle.os_laws.specs.Names.{IsShipped}
use Rattle.os_functions.specs.Calls.{HasStatics, CallsNext, Leaves, Refuses}
use Rattle.os_functions.specs.RectangleLaws.{InRectangle, IsColoured}
use Rattle.os_functions.specs.ScreenLaws.{colour}

-- both ends are on the screen
abbrev pub AreEnds : ℕ → ℕ → ℕ → ℕ → Type 0
AreEnds x1 y1 x2 y2 = (x1 < 512) × (y1 < 256) × (x2 < 512) × (y2 < 256)

-- how far apart two numbers are
abbrev pub distance : ℕ → ℕ → ℕ
distance x y = (x - y) + (y - x)

-- Of a line that goes dx along x and dy along y, the point a along x and b along y. With a step less along x it is on
-- the one side of the true line. With one less along y it is on the other side, or on it.
abbrev pub IsBeside : ℕ → ℕ → ℕ → ℕ → Type 0
IsBeside dx dy a b = (a * dy < b * dx + dy) × (b * dx ≤ a * dy + dx)

-- The points of a line: those between its ends where it is level or upright, and else those of them that are beside the
-- true line. Each is counted from the first end.
abbrev pub OnLine : ℕ → ℕ → ℕ → ℕ → ℕ → ℕ → Type 0
OnLine x1 y1 x2 y2 x y =
    InRectangle (min x1 x2) (min y1 y2) (max x1 x2) (max y1 y2) x y
    × ((x1 ≡ x2) ⊎ ((y1 ≡ y2) ⊎ IsBeside (distance x1 x2) (distance y1 y2) (distance x1 x) (distance y1 y)))

module _ {core : Core} (p : IsShipped core) (s : State) where
  abbrev pub LineLaw : Type 0
  LineLaw =
      (h : HasStatics p) (x1 y1 x2 y2 : ℕ) → AreEnds x1 y1 x2 y2 → length s.words ≡ heap_and_screen_size
      → (c : CallsNext p (codes "Screen") (codes "drawLine") s (x1 ∷ y1 ∷ x2 ∷ y2 ∷ []))
      → (words : List ℕ) × IsColoured s.words (OnLine x1 y1 x2 y2) (colour p s h) words × Leaves c (2000 + 400 * distance x1 x2 + 1000 * distance y1 y2) 0 s.statics words

  abbrev pub LineErrorLaw : Type 0
  LineErrorLaw =
      (x1 y1 x2 y2 : ℕ) → x1 < 2 ^ 16 → y1 < 2 ^ 16 → x2 < 2 ^ 16 → y2 < 2 ^ 16 → (AreEnds x1 y1 x2 y2 → ⊥)
      → (c : CallsNext p (codes "Screen") (codes "drawLine") s (x1 ∷ y1 ∷ x2 ∷ y2 ∷ [])) → Refuses p c 17 8

pub record LineLaws : Type 0 where
  pub line : {core : Core} (p : IsShipped core) (s : State) → LineLaw p s
  pub line_error : {core : Core} (p : IsShipped core) (s : State) → LineErrorLaw p s

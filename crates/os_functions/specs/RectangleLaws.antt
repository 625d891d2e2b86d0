-- Rectangles: the points between two corners (book, chapter 12).
use Rattle.std.specs.Prelude.{◌≡◌, ◌≤◌, ◌<◌, ◌+◌, ◌-◌, ◌*◌, ◌^◌, ℕ, List, [], ◌∷◌, codes, length}
use Rattle.word16.specs.Memory.{heap, screen, heap_and_screen_size}
use Rattle.jack_core.specs.declared.program.Core.{Core}
use Rattle.jack_meaning.specs.Meaning.{State}
use Rattle.os_laws.specs.Heap.{word_at}
use Rattle.os_laws.specs.Names.{IsShipped}
use Rattle.os_functions.specs.Calls.{HasStatics, CallsNext, Leaves, Refuses}
use Rattle.os_functions.specs.PrintLaws.{pixel}
use Rattle.os_functions.specs.ScreenLaws.{colour}

-- the upper left and the lower right corner of a rectangle on the screen
abbrev pub AreCorners : ℕ → ℕ → ℕ → ℕ → Type 0
AreCorners x1 y1 x2 y2 = (x1 ≤ x2) × (x2 < 512) × (y1 ≤ y2) × (y2 < 256)

-- the point of column x and row y is in the rectangle with these corners, its borders too
abbrev pub InRectangle : ℕ → ℕ → ℕ → ℕ → ℕ → ℕ → Type 0
InRectangle x1 y1 x2 y2 x y = (x1 ≤ x) × (x ≤ x2) × (y1 ≤ y) × (y ≤ y2)

-- These points of the screen have become 1 (black) or 0 (white). No other pixel has changed, and no word of the heap.
-- What was a word of 16 bits is one still.
pub record IsColoured (words : List ℕ) (points : ℕ → ℕ → Type 0) (colour : ℕ) (words' : List ℕ) : Type 0 where
  pub same_length : length words' ≡ length words
  pub inside : (x y : ℕ) → x < 512 → y < 256 → points x y → pixel words' x y ≡ colour
  pub others : (x y : ℕ) → x < 512 → y < 256 → (points x y → ⊥) → pixel words' x y ≡ pixel words x y
  pub each : (a : ℕ) → heap ≤ a → word_at words a < 2 ^ 16 → word_at words' a < 2 ^ 16
  pub heap : (a : ℕ) → heap ≤ a → a < screen → word_at words' a ≡ word_at words a

module _ {core : Core} (p : IsShipped core) (s : State) where
  abbrev pub RectangleLaw : Type 0
  RectangleLaw =
      (h : HasStatics p) (x1 y1 x2 y2 : ℕ) → AreCorners x1 y1 x2 y2 → length s.words ≡ heap_and_screen_size
      → (c : CallsNext p (codes "Screen") (codes "drawRectangle") s (x1 ∷ y1 ∷ x2 ∷ y2 ∷ []))
      → (words : List ℕ) × IsColoured s.words (InRectangle x1 y1 x2 y2) (colour p s h) words × Leaves c (900 + 1000 * (y2 + 1 - y1)) 0 s.statics words

  abbrev pub RectangleErrorLaw : Type 0
  RectangleErrorLaw =
      (x1 y1 x2 y2 : ℕ) → x1 < 2 ^ 16 → y1 < 2 ^ 16 → x2 < 2 ^ 16 → y2 < 2 ^ 16 → (AreCorners x1 y1 x2 y2 → ⊥)
      → (c : CallsNext p (codes "Screen") (codes "drawRectangle") s (x1 ∷ y1 ∷ x2 ∷ y2 ∷ [])) → Refuses p c 25 9

  -- the whole screen becomes white
  abbrev pub ClearLaw : Type 0
  ClearLaw =
      length s.words ≡ heap_and_screen_size → (c : CallsNext p (codes "Screen") (codes "clearScreen") s [])
      → (words : List ℕ) × IsColoured s.words (λ x y. Unit {0}) 0 words × Leaves c 82000 0 s.statics words

pub record RectangleLaws : Type 0 where
  pub rectangle : {core : Core} (p : IsShipped core) (s : State) → RectangleLaw p s
  pub rectangle_error : {core : Core} (p : IsShipped core) (s : State) → RectangleErrorLaw p s
  pub clear : {core : Core} (p : IsShipped core) (s : State) → ClearLaw p s

-- The screen: 256 rows of 512 pixels, 32 words to a row, the lowest bit of a word leftmost (book, chapter 5), and one
-- pixel drawn (chapter 12).
use Rattle.std.specs.Prelude.{◌≡◌, ◌≢◌, ◌≤◌, ◌<◌, ◌+◌, ◌*◌, ◌/◌, ◌%◌, ◌^◌, ◌⊎◌, ℕ, true, List, [], ◌∷◌, codes, length, nat_eq, slice_index, slice_set, if◌then◌else◌}
use Rattle.word16.specs.Memory.{heap, screen, heap_and_screen_size}
use Rattle.word16.specs.Words.{truth}
use Rattle.jack_core.specs.declared.program.Core.{Core}
use Rattle.jack_meaning.specs.Meaning.{State}
use Rattle.os_laws.specs.Heap.{word_at}
use Rattle.os_laws.specs.Names.{IsShipped}
use Rattle.os_laws.specs.Numbers.{bit}
use Rattle.os_functions.specs.Calls.{HasStatics, CallsNext, Leaves, Refuses}

-- the address of the word that has the pixel of column x and row y, of which it is bit x % 16
abbrev pub pixel_address : ℕ → ℕ → ℕ
pixel_address x y = screen + 32 * y + x / 16

-- That bit of that word has become 1 (black) or 0 (white), and nothing else has changed. The word is one of 16 bits
-- still.
pub record IsPainted (words : List ℕ) (x y colour : ℕ) (words' : List ℕ) : Type 0 where
  pub same_length : length words' ≡ length words
  pub others : (a : ℕ) → heap ≤ a → a ≢ pixel_address x y → word_at words' a ≡ word_at words a
  pub here : bit (word_at words' (pixel_address x y)) (x % 16) ≡ colour
  pub beside : (k : ℕ) → k ≢ x % 16
      → bit (word_at words' (pixel_address x y)) k ≡ bit (word_at words (pixel_address x y)) k
  pub word : word_at words' (pixel_address x y) < 2 ^ 16

module _ {core : Core} (p : IsShipped core) (s : State) where
  -- 1 where the static `black` is true, and 0 where it is false
  abbrev pub colour : HasStatics p → ℕ
  colour h = if nat_eq (slice_index s.statics h.black) 0 then 0 else 1

  -- black at first, and the memory untouched
  abbrev pub InitLaw : Type 0
  InitLaw = (h : HasStatics p) (c : CallsNext p (codes "Screen") (codes "init") s []) → Leaves c 5 0 (slice_set s.statics h.black (truth true)) s.words

  -- from here on the colour is black where the value is true, else white
  abbrev pub ColourLaw : Type 0
  ColourLaw = (h : HasStatics p) (v : ℕ) (c : CallsNext p (codes "Screen") (codes "setColor") s (v ∷ [])) → Leaves c 5 0 (slice_set s.statics h.black v) s.words

  -- a pixel on the screen
  abbrev pub PixelLaw : Type 0
  PixelLaw =
      (h : HasStatics p) (x y : ℕ) → x < 512 → y < 256 → length s.words ≡ heap_and_screen_size → word_at s.words (pixel_address x y) < 2 ^ 16
      → (c : CallsNext p (codes "Screen") (codes "drawPixel") s (x ∷ y ∷ [])) → (words : List ℕ) × IsPainted s.words x y (colour h) words × Leaves c 320 0 s.statics words

  -- one outside
  abbrev pub PixelErrorLaw : Type 0
  PixelErrorLaw =
      (x y : ℕ) → x < 2 ^ 16 → y < 2 ^ 16 → (512 ≤ x) ⊎ (256 ≤ y) → (c : CallsNext p (codes "Screen") (codes "drawPixel") s (x ∷ y ∷ [])) → Refuses p c 13 7

pub record ScreenLaws : Type 0 where
  pub init : {core : Core} (p : IsShipped core) (s : State) → InitLaw p s
  pub set_colour : {core : Core} (p : IsShipped core) (s : State) → ColourLaw p s
  pub pixel : {core : Core} (p : IsShipped core) (s : State) → PixelLaw p s
  pub pixel_error : {core : Core} (p : IsShipped core) (s : State) → PixelErrorLaw p s

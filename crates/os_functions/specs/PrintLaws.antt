-- Characters printed: the cell of the cursor shows the glyph, and the cursor goes on (book, chapter 12).
use Rattle.std.specs.Prelude.{◌≡◌, ◌≢◌, ◌≤◌, ◌<◌, ◌+◌, ◌-◌, ◌*◌, ◌/◌, ◌%◌, ◌^◌, ◌⊎◌, ℕ, List, [], ◌∷◌, codes, length, nat_eq, nat_lt, slice_index, if◌then◌else◌}
use Rattle.word16.specs.Memory.{heap, screen, heap_and_screen_size}
use Rattle.word16.specs.Words.{truth}
use Rattle.jack_core.specs.Texts.{the_subroutines}
use Rattle.jack_core.specs.declared.program.Core.{Core}
use Rattle.jack_meaning.specs.Meaning.{State}
use Rattle.os_laws.specs.Calls.{NextCall}
use Rattle.os_laws.specs.Heap.{word_at}
use Rattle.os_laws.specs.Names.{IsShipped}
use Rattle.os_laws.specs.Numbers.{bit}
use Rattle.os_functions.specs.Calls.{HasStatics, CallsNext, Leaves}
use Rattle.os_functions.specs.CursorLaws.{cell_address, with_cursor}
use Rattle.os_functions.specs.ScreenLaws.{pixel_address, IsPainted, colour}

-- the pixel of column x and row y: 1 is black
abbrev pub pixel : List ℕ → ℕ → ℕ → ℕ
pixel words x y = bit (word_at words (pixel_address x y)) (x % 16)

-- The cursor is at this cell: the two statics are there, and they are as moveCursor sets them.
pub record IsCursorAt {core : Core} {p : IsShipped core} (h : HasStatics p) (statics : List ℕ) (row column : ℕ) : Type 0 where
  pub rows : row < 23
  pub columns : column < 64
  pub room : (h.place < length statics) × (h.right < length statics)
  pub place : slice_index statics h.place ≡ cell_address row column
  pub right : slice_index statics h.right ≡ truth (nat_eq (column % 2) 1)

-- ---- glyphs

-- the code of the glyph that is shown: codes without one are shown as 127
abbrev pub shown_code : ℕ → ℕ
shown_code c = if nat_lt c 32 then 127 else (if nat_lt 126 c then 127 else c)

-- A glyph has five columns of seven dots, two columns to a word, the left one lower, the top dot lowest. This is the
-- dot of column i and row j.
abbrev pub glyph_dot : List ℕ → ℕ → ℕ → ℕ → ℕ
glyph_dot words glyph i j = bit (word_at words (glyph + i / 2)) (7 * (i % 2) + j)

-- the pixel of column i and row j of a cell: the glyph begins at column 0 and row 1, and around it the cell is white
abbrev pub cell_pixel : List ℕ → ℕ → ℕ → ℕ → ℕ
cell_pixel words glyph i j = if nat_lt i 5 then (if nat_lt 0 j then (if nat_lt j 8 then glyph_dot words glyph i (j - 1) else 0) else 0) else 0

-- The three words of the character's glyph stand in the heap. Glyphs follow each other, three words each, from the
-- static `font` on.
pub record HasGlyph {core : Core} {p : IsShipped core} (h : HasStatics p) (s : State) (c glyph : ℕ) : Type 0 where
  pub place : slice_index s.statics h.font + 3 * shown_code c ≡ glyph
  pub inside : (heap ≤ glyph) × (glyph + 3 ≤ screen)
  pub words : length s.words ≡ heap_and_screen_size

-- The cell shows the glyph. No other pixel has changed, and no word of the heap. What was a word of 16 bits is one
-- still.
pub record IsDrawn (words : List ℕ) (row column glyph : ℕ) (words' : List ℕ) : Type 0 where
  pub same_length : length words' ≡ length words
  pub cell : (i j : ℕ) → i < 8 → j < 11
      → pixel words' (8 * column + i) (11 * row + j) ≡ cell_pixel words glyph i j
  pub others : (x y : ℕ) → x < 512 → y < 256 → (x / 8 ≢ column) ⊎ (y / 11 ≢ row)
      → pixel words' x y ≡ pixel words x y
  pub each : (a : ℕ) → heap ≤ a → word_at words a < 2 ^ 16 → word_at words' a < 2 ^ 16
  pub heap : (a : ℕ) → heap ≤ a → a < screen → word_at words' a ≡ word_at words a

-- ---- where the cursor goes

-- one cell on: after column 63 to the next row, and after row 22 to row 0
abbrev pub row_after : ℕ → ℕ → ℕ
row_after row column = (row + (column + 1) / 64) % 23

abbrev pub column_after : ℕ → ℕ
column_after column = (column + 1) % 64

-- one cell back, where there is one: the cells are counted row by row
abbrev pub row_before : ℕ → ℕ → ℕ
row_before row column = (64 * row + column - 1) / 64

abbrev pub column_before : ℕ → ℕ → ℕ
column_before row column = (64 * row + column - 1) % 64

module _ {core : Core} (p : IsShipped core) (s : State) where
  -- Within this many steps a character has been drawn in a cell, and the cursor has gone to
  -- another.
  abbrev pub Draws : (h : HasStatics p) {g : ℕ} {values : List ℕ} → NextCall (the_subroutines core) s g values → ℕ → ℕ → ℕ → ℕ → ℕ → Type 0
  Draws h c glyph row column row' column' = (words : List ℕ) × IsDrawn s.words row column glyph words × Leaves c 1800 0 (with_cursor h s.statics row' column') words

  -- a character that is neither newline nor backspace
  abbrev pub PrintLaw : Type 0
  PrintLaw =
      (h : HasStatics p) (row column k glyph : ℕ) → k < 2 ^ 16 → k ≢ 128 → k ≢ 129 → IsCursorAt h s.statics row column → HasGlyph h s k glyph
      → (c : CallsNext p (codes "Output") (codes "printChar") s (k ∷ [])) → Draws h c glyph row column (row_after row column) (column_after column)

  -- the first cell of the next row
  abbrev pub LineLaw : Type 0
  LineLaw =
      (h : HasStatics p) (row column : ℕ) → IsCursorAt h s.statics row column
      → (c : CallsNext p (codes "Output") (codes "println") s []) → Leaves c 20 0 (with_cursor h s.statics ((row + 1) % 23) 0) s.words

  -- newline
  abbrev pub PrintLineLaw : Type 0
  PrintLineLaw =
      (h : HasStatics p) (row column : ℕ) → IsCursorAt h s.statics row column
      → (c : CallsNext p (codes "Output") (codes "printChar") s (128 ∷ [])) → Leaves c 40 0 (with_cursor h s.statics ((row + 1) % 23) 0) s.words

  -- a space in the cell before
  abbrev pub BackLaw : Type 0
  BackLaw =
      (h : HasStatics p) (row column glyph : ℕ) → IsCursorAt h s.statics row column → HasGlyph h s 32 glyph
      → (c : CallsNext p (codes "Output") (codes "backSpace") s [])
      → Draws h c glyph (row_before row column) (column_before row column) (row_before row column) (column_before row column)

  -- backspace
  abbrev pub PrintBackLaw : Type 0
  PrintBackLaw =
      (h : HasStatics p) (row column glyph : ℕ) → IsCursorAt h s.statics row column → HasGlyph h s 32 glyph
      → (c : CallsNext p (codes "Output") (codes "printChar") s (129 ∷ []))
      → Draws h c glyph (row_before row column) (column_before row column) (row_before row column) (column_before row column)

  -- After a character a pixel can be drawn: wherever the words are those that printChar leaves, drawPixel has what it
  -- asks.
  abbrev pub PixelBehindLaw : Type 0
  PixelBehindLaw =
      (h : HasStatics p) (row column k glyph x y : ℕ) → k < 2 ^ 16 → k ≢ 128 → k ≢ 129 → IsCursorAt h s.statics row column → HasGlyph h s k glyph
      → x < 512 → y < 256 → word_at s.words (pixel_address x y) < 2 ^ 16 → (c : CallsNext p (codes "Output") (codes "printChar") s (k ∷ []))
      → (words : List ℕ) × IsDrawn s.words row column glyph words × Leaves c 1800 0 (with_cursor h s.statics (row_after row column) (column_after column)) words
      × ((t : State) → t.words ≡ words → (d : CallsNext p (codes "Screen") (codes "drawPixel") t (x ∷ y ∷ [])) → (words' : List ℕ) × IsPainted words x y (colour p t h) words' × Leaves d 320 0 t.statics words')

pub record PrintLaws : Type 0 where
  -- moveCursor sets the cursor
  pub stands : {core : Core} (p : IsShipped core)
      (h : HasStatics p) (statics : List ℕ) (row column : ℕ) → row < 23 → column < 64
      → (h.place < length statics) × (h.right < length statics)
      → IsCursorAt h (with_cursor h statics row column) row column
  pub print : {core : Core} (p : IsShipped core) (s : State) → PrintLaw p s
  pub line : {core : Core} (p : IsShipped core) (s : State) → LineLaw p s
  pub print_line : {core : Core} (p : IsShipped core) (s : State) → PrintLineLaw p s
  pub back : {core : Core} (p : IsShipped core) (s : State) → BackLaw p s
  pub print_back : {core : Core} (p : IsShipped core) (s : State) → PrintBackLaw p s
  pub pixel_behind : {core : Core} (p : IsShipped core) (s : State) → PixelBehindLaw p s

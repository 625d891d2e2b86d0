-- The text of the screen (the book's chapters 4 and 5: 256 rows of 512 pixels, from the word `screen` on).
use Rattle.std.specs.Prelude.{ℕ, ◌+◌, ◌*◌, ◌/◌, ◌%◌, ◌==◌, ◌++◌, List, [], ◌∷◌, map, if◌then◌else◌}
use Rattle.std.specs.Int.{bit_at}
use Rattle.std.specs.List.{flat_map, range_with_len}
use Rattle.word16.specs.Memory.{screen}

-- bit k of a word as it is shown: `#` for 1 and `.` for 0
abbrev pub shade : ℕ → ℕ → ℕ
shade w k = if bit_at w k == 1 then 35 else 46

-- the 16 pixels of a word
unfoldable pub pixels_of : ℕ → List ℕ
pixels_of w = map (shade w) (range_with_len 0 16)

-- the pixel in a row and a column: a row has 32 words of 16 pixels, the lowest bit leftmost
abbrev pub pixel : (ℕ → ℕ) → ℕ → ℕ → ℕ
pixel word row column = shade (word (screen + 32 * row + column / 16)) (column % 16)

-- the 512 pixels of a row, and a line feed
unfoldable pub row_text : (ℕ → ℕ) → ℕ → List ℕ
row_text word row = map (pixel word row) (range_with_len 0 512) ++ 10 ∷ []

-- the 256 rows
unfoldable pub screen_text : (ℕ → ℕ) → List ℕ
screen_text word = flat_map (row_text word) (range_with_len 0 256)

-- The cursor: 23 rows of 64 cells, each 11 pixels high and 8 wide, two cells to a word of the screen (book, chapter
-- 12).
use Rattle.std.specs.Prelude.{◌≤◌, ◌<◌, ◌+◌, ◌*◌, ◌/◌, ◌%◌, ◌^◌, ◌⊎◌, ℕ, List, [], ◌∷◌, codes, nat_eq, slice_set}
use Rattle.word16.specs.Memory.{screen}
use Rattle.word16.specs.Words.{truth}
use Rattle.jack_core.specs.declared.program.Core.{Core}
use Rattle.jack_meaning.specs.Meaning.{State}
use Rattle.os_laws.specs.Names.{IsShipped}
use Rattle.os_functions.specs.Calls.{HasStatics, CallsNext, Leaves, Refuses}

-- the address of the top word of a cell: a row of cells has 11 rows of 32 words
abbrev pub cell_address : ℕ → ℕ → ℕ
cell_address row column = screen + 11 * 32 * row + column / 2

-- the static `place` is the top word of this cell, and `right` says whether it is the upper half of the word
abbrev pub with_cursor : {core : Core} {p : IsShipped core} → HasStatics p → List ℕ → ℕ → ℕ → List ℕ
with_cursor h statics row column = slice_set (slice_set statics h.place (cell_address row column)) h.right (truth (nat_eq (column % 2) 1))

module _ {core : Core} (p : IsShipped core) (s : State) where
  -- Only the two statics change.
  abbrev pub MoveLaw : Type 0
  MoveLaw =
      (h : HasStatics p) (row column : ℕ) → row < 23 → column < 64 → (c : CallsNext p (codes "Output") (codes "moveCursor") s (row ∷ column ∷ [])) → Leaves c 1300 0 (with_cursor h s.statics row column) s.words

  abbrev pub MoveErrorLaw : Type 0
  MoveErrorLaw =
      (row column : ℕ) → row < 2 ^ 16 → column < 2 ^ 16 → (23 ≤ row) ⊎ (64 ≤ column)
      → (c : CallsNext p (codes "Output") (codes "moveCursor") s (row ∷ column ∷ [])) → Refuses p c 16 20

pub record CursorLaws : Type 0 where
  pub move : {core : Core} (p : IsShipped core) (s : State) → MoveLaw p s
  pub move_error : {core : Core} (p : IsShipped core) (s : State) → MoveErrorLaw p s

-- Static words as lists.
use Rattle.std.specs.Prelude.{◌≡◌, ◌<◌, ◌≤◌, ◌+◌, ◌-◌, ◌^◌, ℕ, List, Some, min, length, slice_index, slice_get}
use Rattle.vm_link.specs.Sections.{Section}
use Rattle.vm_link.specs.Faults.{file_words, words_before, words_of_lines}

-- These are the static words of the first n files.
pub record AreWords (kept : List Section) (n : ℕ) (words : List ℕ) : Type 0 where
  pub count : length words ≡ n
  pub at : (k : ℕ) → k < n → slice_index words k ≡ file_words kept k

-- These are the static words before each of the first n files, or 2^64 - 1 where they are more.
pub record AreBases (kept : List Section) (n : ℕ) (bases : List ℕ) : Type 0 where
  pub count : length bases ≡ n
  pub at : (k : ℕ) → k < n → slice_index bases k ≡ min (words_before kept k) (2 ^ 64 - 1)

-- A section's file is there, its base is known, and its statics are among the 240 words.
pub record IsFitting (kept : List Section) (bases : List ℕ) (s : Section) : Type 0 where
  pub below : s.file < length bases
  pub base : slice_index bases s.file ≡ words_before kept s.file
  pub room : words_before kept s.file + words_of_lines s.lines ≤ 240

abbrev pub AreFitting : List Section → List ℕ → Type 0
AreFitting kept bases = (i : ℕ) (s : Section) → slice_get kept i ≡ Some s → IsFitting kept bases s

-- A string that becomes the decimal of a number (book, chapter 12).
use Rattle.std.specs.Prelude.{◌≡◌, ◌≢◌, ◌≤◌, ◌<◌, ◌+◌, ◌^◌, ◌⊎◌, ℕ, List, [], ◌∷◌, codes, length, take}
use Rattle.word16.specs.Memory.{heap}
use Rattle.jack_core.specs.declared.program.Core.{Core}
use Rattle.jack_meaning.specs.Meaning.{State}
use Rattle.os_laws.specs.Heap.{word_at}
use Rattle.os_laws.specs.Names.{IsShipped}
use Rattle.os_functions.specs.Calls.{Leaves}
use Rattle.os_functions.specs.ErrorLaws.{shown_number}
use Rattle.os_functions.specs.StringLaws.{StringAt, CallsString}
use Rattle.os_strings.specs.Errors.{ComesToError}

-- The string at the address o, with room for its characters from this place on, has this text now. No other words have
-- changed than its count and those of its characters.
pub record IsRewritten (words : List ℕ) (o place : ℕ) (text : List ℕ) (room : ℕ) (words' : List ℕ) : Type 0 where
  pub string : StringAt words' o text room
  pub same_place : string.place ≡ place
  pub as_long : length words' ≡ length words
  pub others : (a : ℕ) → heap ≤ a → a ≢ o + 1 → (a < place) ⊎ (place + room ≤ a)
      → word_at words' a ≡ word_at words a

module _ {core : Core} (p : IsShipped core) (s : State) (o : ℕ) (text : List ℕ) (room : ℕ) where
  -- the decimal of a word by its signed reading, where there is room for it
  abbrev pub SetLaw : Type 0
  SetLaw =
      (n : ℕ) → n < 2 ^ 16 → length (shown_number n) ≤ room → (c : CallsString p s (codes "setInt") o (n ∷ []) text room)
      → (words : List ℕ) × Leaves c.call 7000 0 s.statics words × IsRewritten s.words o c.string.place (shown_number n) room words

  -- where there is none for all of it, as many characters as there is room for
  abbrev pub SetErrorLaw : Type 0
  SetErrorLaw =
      (n : ℕ) → n < 2 ^ 16 → room < length (shown_number n) → (c : CallsString p s (codes "setInt") o (n ∷ []) text room)
      → (words : List ℕ) × ComesToError p c.call 7000 19 s.statics words × IsRewritten s.words o c.string.place (take room (shown_number n)) room words

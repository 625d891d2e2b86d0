-- Strings (book, chapter 12).
use Rattle.std.specs.Prelude.{◌≡◌, ◌≤◌, ◌<◌, ◌+◌, ◌-◌, ◌^◌, ◌⊎◌, ℕ, List, [], ◌∷◌, ◌++◌, codes, length, take, slice_index, slice_set}
use Rattle.word16.specs.Memory.{heap, screen, heap_and_screen_size}
use Rattle.jack_core.specs.declared.program.Core.{Core}
use Rattle.jack_meaning.specs.Meaning.{State}
use Rattle.os_laws.specs.Heap.{word_at}
use Rattle.os_laws.specs.Names.{IsShipped}
use Rattle.os_functions.specs.Calls.{CallsNext, Gives, Leaves, Refuses}

-- At the address o the words have a string with these characters and room for this many. Its three words are the place
-- of its characters, how many there are, and how many there may be. They and the words of the characters lie in the
-- heap, apart from each other.
pub record StringAt (words : List ℕ) (o : ℕ) (text : List ℕ) (room : ℕ) : Type 0 where
  pub place : ℕ
  pub characters : word_at words o ≡ place
  pub count : word_at words (o + 1) ≡ length text
  pub most : word_at words (o + 2) ≡ room
  pub object : (heap ≤ o) × (o + 3 ≤ screen)
  pub few : length text ≤ room
  pub small : room < 2 ^ 15
  pub inside : 0 < room → (heap ≤ place) × (place + room ≤ screen)
  pub apart : 0 < room → (o + 3 ≤ place) ⊎ (place + room ≤ o)
  pub each : (j : ℕ) → j < length text → word_at words (place + j) ≡ slice_index text j

-- the words with another one at an address
abbrev pub with_heap_word : List ℕ → ℕ → ℕ → List ℕ
with_heap_word words a w = slice_set words (a - heap) w

-- The next step of a state is a call of this method of a string.
pub record CallsString {core : Core} (p : IsShipped core) (s : State) (method : List ℕ) (o : ℕ) (more : List ℕ) (text : List ℕ) (room : ℕ) : Type 0 where
  pub words : length s.words ≡ heap_and_screen_size
  pub string : StringAt s.words o text room
  pub call : CallsNext p (codes "String") method s (o ∷ more)

module _ {core : Core} (p : IsShipped core) (s : State) (o : ℕ) (text : List ℕ) (room : ℕ) where
  abbrev pub LengthLaw : Type 0
  LengthLaw = (c : CallsString p s (codes "length") o [] text room) → Gives c.call 3 (length text)

  abbrev pub CharLaw : Type 0
  CharLaw = (j : ℕ) → j < length text → (c : CallsString p s (codes "charAt") o (j ∷ []) text room) → Gives c.call 14 (slice_index text j)

  abbrev pub CharErrorLaw : Type 0
  CharErrorLaw = (j : ℕ) → length text ≤ j → j < 2 ^ 16 → (c : CallsString p s (codes "charAt") o (j ∷ []) text room) → Refuses p c.call 12 15

  -- one word changes, and the string with it
  abbrev pub SetCharLaw : Type 0
  SetCharLaw =
      (j w : ℕ) → j < length text → (c : CallsString p s (codes "setCharAt") o (j ∷ w ∷ []) text room)
      → Leaves c.call 16 0 s.statics (with_heap_word s.words (c.string.place + j) w) × StringAt (with_heap_word s.words (c.string.place + j) w) o (slice_set text j w) room

  abbrev pub SetCharErrorLaw : Type 0
  SetCharErrorLaw = (j w : ℕ) → length text ≤ j → j < 2 ^ 16 → (c : CallsString p s (codes "setCharAt") o (j ∷ w ∷ []) text room) → Refuses p c.call 12 16

  -- two words change: the new character, and how many there are; the string itself is given back
  abbrev pub AppendLaw : Type 0
  AppendLaw =
      (w : ℕ) → length text < room → (c : CallsString p s (codes "appendChar") o (w ∷ []) text room)
      → Leaves c.call 15 o s.statics (with_heap_word (with_heap_word s.words (c.string.place + length text) w) (o + 1) (length text + 1))
      × StringAt (with_heap_word (with_heap_word s.words (c.string.place + length text) w) (o + 1) (length text + 1)) o (text ++ w ∷ []) room

  abbrev pub AppendErrorLaw : Type 0
  AppendErrorLaw = (w : ℕ) → length text ≡ room → (c : CallsString p s (codes "appendChar") o (w ∷ []) text room) → Refuses p c.call 7 17

  -- one word changes: how many there are
  abbrev pub EraseLaw : Type 0
  EraseLaw =
      0 < length text → (c : CallsString p s (codes "eraseLastChar") o [] text room)
      → Leaves c.call 11 0 s.statics (with_heap_word s.words (o + 1) (length text - 1)) × StringAt (with_heap_word s.words (o + 1) (length text - 1)) o (take (length text - 1) text) room

  abbrev pub EraseErrorLaw : Type 0
  EraseErrorLaw = length text ≡ 0 → (c : CallsString p s (codes "eraseLastChar") o [] text room) → Refuses p c.call 7 18

-- a function that gives a character's code
abbrev pub CodeLaw : {core : Core} → IsShipped core → State → List ℕ → ℕ → Type 0
CodeLaw p s name code = (c : CallsNext p (codes "String") name s []) → Gives c 3 code

pub record StringLaws : Type 0 where
  pub size : {core : Core} (p : IsShipped core) (s : State) (o : ℕ) (text : List ℕ) (room : ℕ)
      → LengthLaw p s o text room
  pub char : {core : Core} (p : IsShipped core) (s : State) (o : ℕ) (text : List ℕ) (room : ℕ)
      → CharLaw p s o text room
  pub char_error : {core : Core} (p : IsShipped core) (s : State) (o : ℕ) (text : List ℕ) (room : ℕ)
      → CharErrorLaw p s o text room
  pub set_char : {core : Core} (p : IsShipped core) (s : State) (o : ℕ) (text : List ℕ) (room : ℕ)
      → SetCharLaw p s o text room
  pub set_char_error : {core : Core} (p : IsShipped core) (s : State) (o : ℕ) (text : List ℕ)
      (room : ℕ) → SetCharErrorLaw p s o text room
  pub append : {core : Core} (p : IsShipped core) (s : State) (o : ℕ) (text : List ℕ) (room : ℕ)
      → AppendLaw p s o text room
  pub append_error : {core : Core} (p : IsShipped core) (s : State) (o : ℕ) (text : List ℕ)
      (room : ℕ) → AppendErrorLaw p s o text room
  pub erase : {core : Core} (p : IsShipped core) (s : State) (o : ℕ) (text : List ℕ) (room : ℕ)
      → EraseLaw p s o text room
  pub erase_error : {core : Core} (p : IsShipped core) (s : State) (o : ℕ) (text : List ℕ)
      (room : ℕ) → EraseErrorLaw p s o text room
  -- the codes of the keys newline and backspace, and of the double quote
  pub new_line : {core : Core} (p : IsShipped core) (s : State) → CodeLaw p s (codes "newLine") 128
  pub back_space : {core : Core} (p : IsShipped core) (s : State)
      → CodeLaw p s (codes "backSpace") 129
  pub double_quote : {core : Core} (p : IsShipped core) (s : State)
      → CodeLaw p s (codes "doubleQuote") 34

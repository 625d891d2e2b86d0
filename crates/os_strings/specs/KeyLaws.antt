-- The keyboard (book, chapter 12).
use Rattle.std.specs.Prelude.{◌≡◌, ◌≢◌, ◌≤◌, ◌<◌, ◌+◌, ◌*◌, ◌%◌, ◌^◌, ℕ, List, [], length, Some, codes}
use Rattle.jack_core.specs.Texts.{the_subroutines}
use Rattle.jack_core.specs.declared.program.Core.{Core}
use Rattle.jack_meaning.specs.Text.{Subroutine}
use Rattle.jack_meaning.specs.Meaning.{State}
use Rattle.os_laws.specs.Calls.{after, given_back}
use Rattle.os_laws.specs.Names.{IsShipped}
use Rattle.os_functions.specs.Calls.{HasStatics, CallsNext}
use Rattle.os_functions.specs.CursorLaws.{with_cursor}
use Rattle.os_functions.specs.PrintLaws.{IsCursorAt, HasGlyph, IsDrawn, row_after, column_after, row_before, column_before}

-- Under these keys, a key for each step from the call on, n steps lead to this state, which has as many frames as the
-- first one. Before the last of them there are more: the call has not come back.
pub record ReturnsUnder (subs : List Subroutine) (keys : ℕ → ℕ) (s : State) (n : ℕ) (s' : State) : Type 0 where
  pub some : 0 < n
  pub leads : after subs keys n s ≡ Some s'
  pub frames : length s'.frames ≡ length s.frames
  pub inside : (j : ℕ) → 0 < j → j < n
      → (t : State) × (after subs keys j s ≡ Some t) × (length s.frames < length t.frames)

-- A key k goes down and up again. At the first m looks no key is down, at the next one k is, then some key at l looks
-- more, and then none. The call is step 0. The first look comes at step 11, and others 13 steps apart until a key is
-- down; from then on they come 9 steps apart.
pub record IsPressed (keys : ℕ → ℕ) (m l k : ℕ) : Type 0 where
  pub none : (j : ℕ) → j < m → keys (11 + 13 * j) ≡ 0
  pub pressed : keys (11 + 13 * m) ≡ k
  pub some : 0 < k
  pub held : (i : ℕ) → i < l → 0 < keys (24 + 13 * m + 9 * i)
  pub released : keys (24 + 13 * m + 9 * l) ≡ 0

module _ {core : Core} (p : IsShipped core) (s : State) where
  -- the key of step 5, where the call is step 0
  abbrev pub PressedLaw : Type 0
  PressedLaw = (c : CallsNext p (codes "Keyboard") (codes "keyPressed") s []) (keys : ℕ → ℕ) → ReturnsUnder (the_subroutines core) keys s 8 (given_back s c.caller c.below (keys 5))

  -- the call comes back with the key, and these are the statics and the words
  abbrev pub Reads : CallsNext p (codes "Keyboard") (codes "readChar") s [] → (ℕ → ℕ) → ℕ → ℕ → ℕ → List ℕ → List ℕ → Type 0
  Reads c keys m l k statics words =
      (n : ℕ) × (n ≤ 13 * m + 9 * l + 1900) × ReturnsUnder (the_subroutines core) keys s n (record (given_back s c.caller c.below k) { statics = statics; words = words })

  -- the character is drawn where the cursor is
  abbrev pub ReadLaw : Type 0
  ReadLaw =
      (h : HasStatics p) (row column k glyph : ℕ) → k < 2 ^ 16 → k ≢ 128 → k ≢ 129 → IsCursorAt h s.statics row column → HasGlyph h s k glyph
      → (c : CallsNext p (codes "Keyboard") (codes "readChar") s []) (keys : ℕ → ℕ) (m l : ℕ) → IsPressed keys m l k
      → (words : List ℕ) × IsDrawn s.words row column glyph words × Reads c keys m l k (with_cursor h s.statics (row_after row column) (column_after column)) words

  -- the key newline
  abbrev pub ReadLineLaw : Type 0
  ReadLineLaw =
      (h : HasStatics p) (row column : ℕ) → IsCursorAt h s.statics row column
      → (c : CallsNext p (codes "Keyboard") (codes "readChar") s []) (keys : ℕ → ℕ) (m l : ℕ) → IsPressed keys m l 128 → Reads c keys m l 128 (with_cursor h s.statics ((row + 1) % 23) 0) s.words

  -- the key backspace
  abbrev pub ReadBackLaw : Type 0
  ReadBackLaw =
      (h : HasStatics p) (row column glyph : ℕ) → IsCursorAt h s.statics row column → HasGlyph h s 32 glyph
      → (c : CallsNext p (codes "Keyboard") (codes "readChar") s []) (keys : ℕ → ℕ) (m l : ℕ) → IsPressed keys m l 129
      → (words : List ℕ) × IsDrawn s.words (row_before row column) (column_before row column) glyph words × Reads c keys m l 129 (with_cursor h s.statics (row_before row column) (column_before row column)) words

pub record KeyLaws : Type 0 where
  pub pressed : {core : Core} (p : IsShipped core) (s : State) → PressedLaw p s
  pub read : {core : Core} (p : IsShipped core) (s : State) → ReadLaw p s
  pub read_line : {core : Core} (p : IsShipped core) (s : State) → ReadLineLaw p s
  pub read_back : {core : Core} (p : IsShipped core) (s : State) → ReadBackLaw p s

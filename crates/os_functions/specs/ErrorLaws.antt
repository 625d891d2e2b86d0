-- Strings and numbers printed; errors: the text ERR and the number are printed, and the program stands still (book,
-- chapter 12).
use Rattle.std.specs.Prelude.{◌≡◌, ◌≢◌, ◌≤◌, ◌<◌, ◌+◌, ◌-◌, ◌*◌, ◌^◌, nat_lt, ℕ, List, [], ◌∷◌, ◌++◌, codes, length, Some, slice_index, if◌then◌else◌, decimal}
use Rattle.std.specs.List.{AllByRecursion}
use Rattle.word16.specs.Memory.{heap, screen, heap_and_screen_size}
use Rattle.jack_core.specs.Texts.{the_subroutines}
use Rattle.jack_core.specs.declared.program.Core.{Core}
use Rattle.jack_meaning.specs.Text.{Subroutine}
use Rattle.jack_meaning.specs.Meaning.{State}
use Rattle.os_laws.specs.Calls.{after}
use Rattle.os_laws.specs.Names.{IsShipped}
use Rattle.os_functions.specs.Calls.{HasStatics, CallsNext, Gives, Leaves, Refuses}
use Rattle.os_functions.specs.CursorLaws.{with_cursor}
use Rattle.os_functions.specs.PrintLaws.{IsCursorAt, shown_code, IsDrawn, row_after, column_after}
use Rattle.os_functions.specs.StringLaws.{StringAt}

-- From this many steps on there is always a next one, the call never comes back, and these are the statics and the
-- words.
abbrev pub StandsStill : List Subroutine → State → ℕ → List ℕ → List ℕ → Type 0
StandsStill subs s most statics words =
    (m : ℕ) × (m ≤ most)
    × ((keys : ℕ → ℕ) (n : ℕ) → m ≤ n → (t : State) × (after subs keys n s ≡ Some t) × (length s.frames < length t.frames) × (t.statics ≡ statics) × (t.words ≡ words))

-- Each of these characters has been drawn in its cell, the first one in this cell and each in the one after the last;
-- the glyphs stand from `font` on.
abbrev pub ShowsText : ℕ → List ℕ → ℕ → ℕ → List ℕ → List ℕ → Type 0
ShowsText font words row column [] words' = words' ≡ words
ShowsText font words row column (k ∷ ks) words' =
    (drawn : List ℕ) × IsDrawn words row column (font + 3 * shown_code k) drawn × ShowsText font drawn (row_after row column) (column_after column) ks words'

-- the cell after this many characters
abbrev pub IsBehind : ℕ → ℕ → List ℕ → ℕ → ℕ → Type 0
IsBehind row column [] row' column' = (row ≡ row') × (column ≡ column')
IsBehind row column (k ∷ ks) row' column' = IsBehind (row_after row column) (column_after column) ks row' column'

-- the glyphs of all codes have their place in the heap; what they show is said by HasShapes
pub record HasFont {core : Core} {p : IsShipped core} (h : HasStatics p) (s : State) : Type 0 where
  pub inside : (heap ≤ slice_index s.statics h.font + 3 * 32)
      × (slice_index s.statics h.font + 3 * 128 ≤ screen)
  pub words : length s.words ≡ heap_and_screen_size

-- the decimal of a word by its signed reading, after a minus where it is below 0
abbrev pub shown_number : ℕ → List ℕ
shown_number n = if nat_lt n (2 ^ 15) then decimal n else 45 ∷ decimal (2 ^ 16 - n)

-- a character that is drawn: neither newline nor backspace
abbrev pub IsCharacter : ℕ → Type 0
IsCharacter k = (k < 2 ^ 16) × (k ≢ 128) × (k ≢ 129)

module _ {core : Core} (p : IsShipped core) (s : State) where
  -- an endless loop
  abbrev pub HaltLaw : Type 0
  HaltLaw = CallsNext p (codes "Sys") (codes "halt") s [] → StandsStill (the_subroutines core) s 1 s.statics s.words

  -- the duration is counted down
  abbrev pub WaitLaw : Type 0
  WaitLaw = (d : ℕ) → d < 2 ^ 15 → (c : CallsNext p (codes "Sys") (codes "wait") s (d ∷ [])) → Gives c (10 + 6 * d) 0

  -- one whose signed reading is below 0
  abbrev pub WaitErrorLaw : Type 0
  WaitErrorLaw = (d : ℕ) → 2 ^ 15 ≤ d → d < 2 ^ 16 → (c : CallsNext p (codes "Sys") (codes "wait") s (d ∷ [])) → Refuses p c 7 1

  -- the characters of a string, from the cursor on
  abbrev pub TextLaw : Type 0
  TextLaw =
      (h : HasStatics p) (row column o : ℕ) (text : List ℕ) (room : ℕ) → IsCursorAt h s.statics row column → HasFont h s → StringAt s.words o text room → AllByRecursion IsCharacter text
      → (c : CallsNext p (codes "Output") (codes "printString") s (o ∷ []))
      → (words : List ℕ) × (row' : ℕ) × (column' : ℕ) × IsBehind row column text row' column' × ShowsText (slice_index s.statics h.font) s.words row column text words
      × Leaves c (10 + 1850 * length text) 0 (with_cursor h s.statics row' column') words

  -- the decimal, from the cursor on
  abbrev pub IntLaw : Type 0
  IntLaw =
      (h : HasStatics p) (row column n : ℕ) → n < 2 ^ 16 → IsCursorAt h s.statics row column → HasFont h s
      → (c : CallsNext p (codes "Output") (codes "printInt") s (n ∷ []))
      → (words : List ℕ) × (row' : ℕ) × (column' : ℕ) × IsBehind row column (shown_number n) row' column' × ShowsText (slice_index s.statics h.font) s.words row column (shown_number n) words
      × Leaves c 12000 0 (with_cursor h s.statics row' column') words

  -- the text ERR and the decimal, and then the endless loop
  abbrev pub ErrorLaw : Type 0
  ErrorLaw =
      (h : HasStatics p) (row column n : ℕ) → n < 2 ^ 16 → IsCursorAt h s.statics row column → HasFont h s
      → CallsNext p (codes "Sys") (codes "error") s (n ∷ [])
      → (words : List ℕ) × (row' : ℕ) × (column' : ℕ) × IsBehind row column (codes "ERR" ++ shown_number n) row' column' × ShowsText (slice_index s.statics h.font) s.words row column (codes "ERR" ++ shown_number n) words
      × StandsStill (the_subroutines core) s 20000 (with_cursor h s.statics row' column') words

pub record ErrorLaws : Type 0 where
  pub halt : {core : Core} (p : IsShipped core) (s : State) → HaltLaw p s
  pub wait : {core : Core} (p : IsShipped core) (s : State) → WaitLaw p s
  pub wait_error : {core : Core} (p : IsShipped core) (s : State) → WaitErrorLaw p s
  pub text : {core : Core} (p : IsShipped core) (s : State) → TextLaw p s
  pub int : {core : Core} (p : IsShipped core) (s : State) → IntLaw p s
  pub error : {core : Core} (p : IsShipped core) (s : State) → ErrorLaw p s

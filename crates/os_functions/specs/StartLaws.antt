-- From the start to Main.main, and what the classes' own init leave (book, chapters 11 and 12).
use Rattle.std.specs.Prelude.{◌≡◌, ◌≢◌, ◌≤◌, ◌<◌, ◌+◌, ◌-◌, ◌*◌, ℕ, true, List, [], ◌∷◌, codes, length, slice_index, Some}
use Rattle.word16.specs.Memory.{heap, screen, keyboard}
use Rattle.word16.specs.Words.{truth}
use Rattle.jack_core.specs.Texts.{the_program, the_subroutines}
use Rattle.jack_core.specs.declared.program.Core.{Core}
use Rattle.jack_meaning.specs.Meaning.{Frame, State, new_frame, filled_text, statics_of}
use Rattle.jack_meaning.specs.Text.{Literal, Open, Call, NoMore, Do, Return, End, Next}
use Rattle.jack_meaning.specs.Level.{run}
use Rattle.os_laws.specs.Heap.{word_at}
use Rattle.os_laws.specs.HeapCalls.{HasHeap}
use Rattle.os_laws.specs.Names.{IsShipped}
use Rattle.os_functions.specs.Calls.{routine_number, HasStatics, CallsNext, Gives}
use Rattle.os_functions.specs.ErrorLaws.{StandsStill}
use Rattle.os_functions.specs.Font.{font_dot}
use Rattle.os_functions.specs.PrintLaws.{IsCursorAt, glyph_dot}

-- Each character from 32 to 127 has its shape in three words one after another, from this address on.
abbrev pub HasShapes : List ℕ → ℕ → Type 0
HasShapes words font = (c i j : ℕ) → 32 ≤ c → c < 128 → i < 5 → j < 7 → glyph_dot words (font + 3 * c) i j ≡ font_dot c i j

-- The state is at the first statement of Main.main: Sys.init has called it, and `start` has called Sys.init.
pub record IsAtMain {core : Core} (p : IsShipped core) (h : HasStatics p) (s : State) : Type 0 where
  pub init : Frame
  pub start : Frame
  pub init_is : init.subroutine ≡ routine_number p (codes "Sys") (codes "init")
  pub start_is : (start.subroutine ≡ 0) × (start.text ≡ Next (Do 1 Open) End)
  -- of Sys.init's statements, which have no loop, the sixth waits; then comes the call of Sys.halt
  pub waits : init.text
      ≡ Next (Do 6 Open) (Next (Do 7 (Call (routine_number p (codes "Sys") (codes "halt")) NoMore))
      (Next (Return 8 (Literal 0)) End))
  pub frames : s.frames
      ≡ new_frame (the_subroutines core) (routine_number p (codes "Main") (codes "main")) [] ∷ init
      ∷ start ∷ []
  -- of the heap the font is in use, 288 words at the upper end; all else is one free part, of whose words but the first
  -- none is set
  pub blocks : HasHeap s h.free (heap ∷ []) (record { place = screen - 288; words = 288 } ∷ [])
  pub free : word_at s.words heap ≡ screen - heap - 289
  pub unset : (a : ℕ) → heap < a → a < screen - 289 → word_at s.words a ≡ 0
  pub font : slice_index s.statics h.font + 3 * 32 ≡ screen - 288
  pub shapes : HasShapes s.words (slice_index s.statics h.font)
  -- the screen is white, the cursor is at its first cell, and what is drawn becomes black
  pub white : (a : ℕ) → screen ≤ a → a < keyboard → word_at s.words a ≡ 0
  pub cursor : IsCursorAt h s.statics 0 0
  pub black : slice_index s.statics h.black ≡ truth true
  -- no other static is set
  pub statics : length s.statics ≡ statics_of (the_program core)
  pub others : (k : ℕ) → k ≢ h.free → k ≢ h.font → k ≢ h.place → k ≢ h.right → k ≢ h.black
      → slice_index s.statics k ≡ 0

-- 1,735 steps lead to Main.main. They hear no key: over every list of keys all of these are left.
abbrev pub StartLaw : {core : Core} → IsShipped core → Type 0
StartLaw {core} p =
    (h : HasStatics p) → (s : State) × IsAtMain p h s × ((keys : List ℕ) → run (the_program core) keys 1735 ≡ Some (record { state = s; keys = keys }))

-- When Main.main has returned with a value, the program stands still.
abbrev pub EndLaw : {core : Core} → IsShipped core → Type 0
EndLaw {core} p =
    (h : HasStatics p) (s : State) (a : IsAtMain p h s) (t : State) (w : ℕ) → t.frames ≡ record (a.init) { text = filled_text w a.init.text } ∷ a.start ∷ []
    → StandsStill (the_subroutines core) t 2 t.statics t.words

module _ {core : Core} (p : IsShipped core) (s : State) where
  -- Math and Keyboard keep nothing between calls
  abbrev pub MathInitLaw : Type 0
  MathInitLaw = (c : CallsNext p (codes "Math") (codes "init") s []) → Gives c 3 0

  abbrev pub KeyboardInitLaw : Type 0
  KeyboardInitLaw = (c : CallsNext p (codes "Keyboard") (codes "init") s []) → Gives c 3 0

pub record StartLaws : Type 0 where
  pub start : {core : Core} (p : IsShipped core) → StartLaw p
  pub end : {core : Core} (p : IsShipped core) → EndLaw p
  pub math : {core : Core} (p : IsShipped core) (s : State) → MathInitLaw p s
  pub keyboard : {core : Core} (p : IsShipped core) (s : State) → KeyboardInitLaw p s

-- Texts in quotes: where String.new makes a string for one, it becomes a string of just this text (book, chapters 9 and
-- 12).
use Rattle.std.specs.Prelude.{◌≡◌, ◌≤◌, ◌<◌, ◌+◌, ◌*◌, ◌^◌, ℕ, Bool, false, List, [], ◌∷◌, ◌++◌, length, Some, codes}
use Rattle.jack_core.specs.Texts.{the_subroutines}
use Rattle.jack_core.specs.declared.program.Core.{Core}
use Rattle.jack_meaning.specs.Text.{Expression, Literal, Value, Call, Variable, Let, Do, Return, Text, Next, Subroutine}
use Rattle.jack_meaning.specs.Expressions.{Rewrites, Calls, rewrite, filled}
use Rattle.jack_meaning.specs.Meaning.{Frame, State, Acts, view_of, step_first, with_top, new_frame, filled_text}
use Rattle.jack_names.specs.Made.{one, filled_characters, length_word}
use Rattle.os_laws.specs.Calls.{after}
use Rattle.os_laws.specs.Heap.{Block, passed_block}
use Rattle.os_laws.specs.HeapCalls.{HasHeap, Holds, KeepsOthers}
use Rattle.os_laws.specs.Names.{IsShipped}
use Rattle.os_functions.specs.Calls.{routine_number, HasStatics, CallsNext, Returns}
use Rattle.os_functions.specs.StringLaws.{StringAt}
use Rattle.os_strings.specs.MakingLaws.{Making, IsMade, blocks_of}

-- A place in a text: an expression that stands there moves as it would by itself, and the text with it.
pub record IsPlace (place : Expression → Text) : Type 0 where
  pub rewrites : (subs : List Subroutine) (key : ℕ) (s : State) (f : Frame) (below : List Frame)
      (e e' : Expression) (heard : Bool)
      → rewrite (view_of key s f) e ≡ Rewrites heard e' → step_first subs key s f below (place e) ≡ Acts heard (with_top s below (record f { text = place e' }))
  pub calls : (subs : List Subroutine) (key : ℕ) (s : State) (f : Frame) (below : List Frame)
      (e e' : Expression) (g : ℕ) (xs : List ℕ)
      → rewrite (view_of key s f) e ≡ Calls g xs e' → step_first subs key s f below (place e) ≡ Acts false (with_top s (record f { text = place e' } ∷ below) (new_frame subs g xs))
  pub fills : (w : ℕ) (e : Expression) → filled_text w (place e) ≡ place (filled w e)

-- a string of this length that String.new is to make, and the characters that are to be appended
abbrev pub quoted_from : {core : Core} → IsShipped core → Expression → List ℕ → Expression
quoted_from p size text = filled_characters (routine_number p (codes "String") (codes "appendChar")) (Call (routine_number p (codes "String") (codes "new")) (one size)) text

-- the state with this text in its top frame, and these statics and words
abbrev pub with_text : State → Frame → List Frame → Text → List ℕ → List ℕ → State
with_text s f below t statics words = record { frames = record f { text = t } ∷ below; statics = statics; words = words }

abbrev pub making : {core : Core} {p : IsShipped core} {s : State} {max : ℕ} (h : HasStatics p) (parts : List ℕ) (live : List Block) → HasHeap s h.free parts live → (k : ℕ) → passed_block s.words 4 parts ≡ Some k
    → CallsNext p (codes "String") (codes "new") s (max ∷ []) → Making h s max
making h parts live heap k fit c = record { parts = parts; live = live; heap = heap; k = k; fit = fit; call = c }

-- At a place of the top frame's text stands what this text in quotes means.
pub record Quoting {core : Core} (p : IsShipped core) (s : State) (place : Expression → Text) (text : List ℕ) : Type 0 where
  pub is_place : IsPlace place
  pub top : Frame
  pub below : List Frame
  pub frames : s.frames
      ≡ record top { text = place (quoted_from p (Literal (length_word text)) text) } ∷ below
  pub short : length text < 2 ^ 15

module _ {core : Core} {p : IsShipped core} {s : State} {place : Expression → Text} {text : List ℕ} (q : Quoting p s place text) where
  -- the state after one step: the length is a value
  abbrev pub sized_state : State
  sized_state = with_text s q.top q.below (place (quoted_from p (Value (length text)) text)) s.statics s.words

  -- Under every key, within this many steps a string of just this text stands at the place. These are the statics; of
  -- the words of other blocks and of the screen none has changed.
  pub record IsQuoted (h : HasStatics p) (live : List Block) (o most : ℕ) (statics : List ℕ) : Type 0 where
    pub n : ℕ
    pub few : n ≤ most
    pub words : List ℕ
    pub leads : (keys : ℕ → ℕ) → after (the_subroutines core) keys n s ≡ Some (with_text s q.top q.below (place (Value o)) statics words)
    pub each : (keys : ℕ → ℕ) (j : ℕ) → j < n → (u : State) × (after (the_subroutines core) keys j s ≡ Some u) × (length s.frames ≤ length u.frames)
    pub string : StringAt words o text (length text)
    pub heap : Holds (record s { statics = statics; words = words }) h.free (blocks_of o string.place (length text) ++ live)
    pub keeps : KeepsOthers h.free live s (record s { statics = statics; words = words })

  -- One step leads to a call of String.new with the text's length. Where this call makes a string, the string gets the
  -- text's characters, each within 17 steps.
  abbrev pub QuoteLaw : Type 0
  QuoteLaw =
      (c : CallsNext p (codes "String") (codes "new") sized_state (length text ∷ []))
      × ((h : HasStatics p) (parts : List ℕ) (live : List Block) (heap : HasHeap sized_state h.free parts live) (k : ℕ) (fit : passed_block s.words 4 parts ≡ Some k) (n : ℕ) (s' : State)
      → Returns (the_subroutines core) sized_state n s' → (d : IsMade (making h parts live heap k fit c) s') → IsQuoted h live d.place (1 + n + 17 * length text) s'.statics)

pub record QuoteLaws : Type 0 where
  -- Three places: the one argument of a call by `do`, what `let` gives a variable (a field is none, nor is an element),
  -- and what `return` gives back.
  pub argument : (n g : ℕ) (rest : Text) → IsPlace (λ e. Next (Do n (Call g (one e))) rest)
  pub assigned : (n : ℕ) (x : Variable) (rest : Text) → IsPlace (λ e. Next (Let n x e) rest)
  pub returned : (n : ℕ) (rest : Text) → IsPlace (λ e. Next (Return n e) rest)
  pub quoted : {core : Core} (p : IsShipped core) (s : State) (place : Expression → Text)
      (text : List ℕ) (q : Quoting p s place text) → QuoteLaw q

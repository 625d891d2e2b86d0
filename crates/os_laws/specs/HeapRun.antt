-- The heap over a whole run (book, chapter 12).
use Rattle.std.specs.Prelude.{◌≡◌, ◌≤◌, ◌⊎◌, ℕ, ◌+◌, ◌-◌, Bool, List, [], ◌∷◌, ◌++◌, length, slice_index, slice_set, Some}
use Rattle.word16.specs.Memory.{heap}
use Rattle.jack_meaning.specs.Text.{Subroutine}
use Rattle.jack_meaning.specs.Meaning.{State, Acts, step}
use Rattle.os_laws.specs.Calls.{NextCall, Stops, given_back}
use Rattle.os_laws.specs.Heap.{Block, HeapOf, passed_block, IsKept}
use Rattle.os_laws.specs.HeapCalls.{HasRoom}

-- the numbers of Memory's three routines of the heap, and that of its static `free`
pub record HeapNumbers : Type 0 where
  pub init : ℕ
  pub alloc : ℕ
  pub deAlloc : ℕ
  pub free : ℕ

-- A step has left the static `free` as it was. Of heap and screen at most one word has changed: one of a block in use,
-- or of the screen.
pub record StoresWell (free : ℕ) (live : List Block) (s s' : State) : Type 0 where
  pub static : slice_index s'.statics free ≡ slice_index s.statics free
  pub statics : length s'.statics ≡ length s.statics
  pub words : (s'.words ≡ s.words)
      ⊎ ((a : ℕ) × (w : ℕ) × IsKept live a × (s'.words ≡ slice_set s.words (a - heap) w))

-- Some free part has a word more than this size, whatever the free parts are.
abbrev pub HasPart : State → ℕ → List Block → ℕ → Type 0
HasPart s free live size = (parts : List ℕ) → HeapOf s.words (slice_index s.statics free) parts live → (k : ℕ) × (passed_block s.words (size + 1) parts ≡ Some k)

-- The call has come back at this state, under some keys.
pub record Back (subs : List Subroutine) (s s' : State) : Type 0 where
  pub keys : ℕ → ℕ
  pub n : ℕ
  pub stops : Stops subs keys s (length s.frames) n s'

-- The states of a run that uses the heap well, each with the blocks that are in use then.
pub data Uses (subs : List Subroutine) (h : HeapNumbers) : State → List Block → Type 0 where
  -- Memory.init has come back.
  laid : {s s' : State} → HasRoom s h.free → NextCall subs s h.init [] → Back subs s s' → Uses subs h s' []
  -- A call of alloc has come back with the place of a block of this size.
  taken : {s s' : State} {live : List Block} {size place : ℕ} → Uses subs h s live → 1 ≤ size → size ≤ 14335 → HasPart s h.free live size
      → (c : NextCall subs s h.alloc (size ∷ [])) → Back subs s s' → s'.frames ≡ (given_back s c.caller c.below place).frames → Uses subs h s' (record { place = place; words = size } ∷ live)
  -- A call of deAlloc with the place of a block in use has come back.
  freed : {s s' : State} (front back : List Block) (b : Block) → Uses subs h s (front ++ b ∷ back) → NextCall subs s h.deAlloc (b.place ∷ []) → Back subs s s' → Uses subs h s' (front ++ back)
  -- The run makes a step of another kind, under some key.
  stepped : {s s' : State} {live : List Block} (key : ℕ) (heard : Bool) → Uses subs h s live → step subs key s ≡ Acts heard s' → StoresWell h.free live s s' → Uses subs h s' live

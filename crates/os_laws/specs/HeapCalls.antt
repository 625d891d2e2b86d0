-- What the calls of the heap ask of a state and leave (book, chapter 12).
use Rattle.std.specs.Prelude.{◌≡◌, ◌≢◌, ◌≤◌, ◌<◌, ℕ, ◌+◌, List, [], ◌∷◌, length, slice_index, None}
use Rattle.word16.specs.Memory.{screen, heap_and_screen_size}
use Rattle.jack_meaning.specs.Text.{Subroutine}
use Rattle.jack_meaning.specs.Meaning.{State}
use Rattle.os_laws.specs.Calls.{NextCall, given_back}
use Rattle.os_laws.specs.Heap.{word_at, Block, HeapOf, passed_block, IsKept}

-- The static `free`, which has this number, is there, and so are the words of heap and screen.
pub record HasRoom (s : State) (free : ℕ) : Type 0 where
  pub static : free < length s.statics
  pub words : length s.words ≡ heap_and_screen_size

-- The state has a heap with these free parts and live blocks; its static `free` points to the first free
-- part.
pub record HasHeap (s : State) (free : ℕ) (parts : List ℕ) (live : List Block) : Type 0 where
  pub room : HasRoom s free
  pub heap : HeapOf s.words (slice_index s.statics free) parts live

-- a heap with these live blocks, whatever its free parts are
abbrev pub Holds : State → ℕ → List Block → Type 0
Holds s free live = (parts : List ℕ) × HasHeap s free parts live

-- The state has a heap in which no free part has a word more than this size.
pub record IsFull (s : State) (free size : ℕ) : Type 0 where
  pub parts : List ℕ
  pub live : List Block
  pub heap : HeapOf s.words (slice_index s.statics free) parts live
  pub none : passed_block s.words (size + 1) parts ≡ None

-- No static has changed but `free`, no word of a live block and none of the screen.
pub record KeepsOthers (free : ℕ) (live : List Block) (s s' : State) : Type 0 where
  pub statics : (k : ℕ) → k ≢ free → slice_index s'.statics k ≡ slice_index s.statics k
  pub same_length : length s'.statics ≡ length s.statics
  pub words : (a : ℕ) → IsKept live a → word_at s'.words a ≡ word_at s.words a

-- A call of Memory.init has come back: the state has a heap without live blocks.
pub record Laid {subs : List Subroutine} {s : State} {g : ℕ} {values : List ℕ} (c : NextCall subs s g values) (free : ℕ) (s' : State) : Type 0 where
  pub frames : s'.frames ≡ (given_back s c.caller c.below 0).frames
  pub heap : Holds s' free []
  pub keeps : KeepsOthers free [] s s'

-- A call of alloc has come back with the place of a new block, of this size, which lies in the heap.
pub record Allocated {subs : List Subroutine} {s : State} {g : ℕ} {values : List ℕ} (c : NextCall subs s g values) (free size : ℕ) (live : List Block) (s' : State) : Type 0 where
  pub place : ℕ
  pub frames : s'.frames ≡ (given_back s c.caller c.below place).frames
  pub low : 2049 ≤ place
  pub high : place + size ≤ screen
  pub heap : Holds s' free (record { place = place; words = size } ∷ live)
  pub keeps : KeepsOthers free live s s'

-- A call of deAlloc has come back: these are the blocks that are live still.
pub record Freed {subs : List Subroutine} {s : State} {g : ℕ} {values : List ℕ} (c : NextCall subs s g values) (free : ℕ) (live : List Block) (s' : State) : Type 0 where
  pub frames : s'.frames ≡ (given_back s c.caller c.below 0).frames
  pub heap : Holds s' free live
  pub keeps : KeepsOthers free live s s'

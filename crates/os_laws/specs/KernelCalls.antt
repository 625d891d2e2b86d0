-- Calls of the kernel's routines that the next step of a state makes. The number g is that of the routine, `free` that
-- of the static.
use Rattle.std.specs.Prelude.{◌≡◌, ◌≤◌, ◌<◌, ◌+◌, ◌^◌, ◌⊎◌, ℕ, List, [], ◌∷◌, ◌++◌, Some}
use Rattle.jack_meaning.specs.Text.{Subroutine}
use Rattle.jack_meaning.specs.Meaning.{State}
use Rattle.os_laws.specs.Calls.{NextCall}
use Rattle.os_laws.specs.Heap.{Block, passed_block}
use Rattle.os_laws.specs.HeapCalls.{HasRoom, HasHeap, IsFull}

-- a call of multiplication with these words
pub record Multiplying (subs : List Subroutine) (s : State) (g : ℕ) : Type 0 where
  pub x : ℕ
  pub y : ℕ
  pub word_x : x < 2 ^ 16
  pub word_y : y < 2 ^ 16
  pub call : NextCall subs s g (x ∷ y ∷ [])

-- a call of division with these words, of which the second is not 0
pub record Dividing (subs : List Subroutine) (s : State) (g : ℕ) : Type 0 where
  pub x : ℕ
  pub y : ℕ
  pub word_x : x < 2 ^ 16
  pub word_y : y < 2 ^ 16
  pub some : 0 < y
  pub call : NextCall subs s g (x ∷ y ∷ [])

-- a call of division by 0
pub record DividingByZero (subs : List Subroutine) (s : State) (g : ℕ) : Type 0 where
  pub x : ℕ
  pub call : NextCall subs s g (x ∷ 0 ∷ [])

-- a call of Memory.init
pub record Laying (subs : List Subroutine) (s : State) (g free : ℕ) : Type 0 where
  pub room : HasRoom s free
  pub call : NextCall subs s g []

-- A call of alloc with a size from 1 to 14335, over a heap in which the free part after the first k is the first that
-- is long enough.
pub record Allocating (subs : List Subroutine) (s : State) (g free : ℕ) : Type 0 where
  pub size : ℕ
  pub low : 1 ≤ size
  pub high : size ≤ 14335
  pub parts : List ℕ
  pub live : List Block
  pub heap : HasHeap s free parts live
  pub k : ℕ
  pub fit : passed_block s.words (size + 1) parts ≡ Some k
  pub call : NextCall subs s g (size ∷ [])

-- the same where the size is greater, or no free part is long enough
pub record AllocatingTooMuch (subs : List Subroutine) (s : State) (g free : ℕ) : Type 0 where
  pub size : ℕ
  pub low : 1 ≤ size
  pub high : size < 32768
  pub none : (14335 < size) ⊎ IsFull s free size
  pub call : NextCall subs s g (size ∷ [])

-- a call of alloc with a size whose signed reading is below 1
pub record AllocatingNothing (subs : List Subroutine) (s : State) (g : ℕ) : Type 0 where
  pub size : ℕ
  pub small : (size ≡ 0) ⊎ (32768 ≤ size)
  pub call : NextCall subs s g (size ∷ [])

-- a call of deAlloc with the place of a live block
pub record Deallocating (subs : List Subroutine) (s : State) (g free : ℕ) : Type 0 where
  pub parts : List ℕ
  pub front : List Block
  pub block : Block
  pub back : List Block
  pub heap : HasHeap s free parts (front ++ block ∷ back)
  pub call : NextCall subs s g (block.place ∷ [])

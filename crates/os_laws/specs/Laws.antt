-- The laws over the meaning: for every state, and wherever the routine stands among the subroutines.
use Rattle.std.specs.Prelude.{◌≡◌, ◌≤◌, ◌<◌, ◌+◌, ◌*◌, ◌-◌, ℕ, List, [], ◌∷◌, ◌++◌, length, slice_set, nat_eq}
use Rattle.std.specs.List.{IsDistinct}
use Rattle.word16.specs.Memory.{heap}
use Rattle.jack_meaning.specs.Text.{Subroutine}
use Rattle.jack_meaning.specs.Meaning.{State, subroutine_at}
use Rattle.os_laws.specs.Calls.{NextCall, ComesBack, ComesToCall, given_back}
use Rattle.os_laws.specs.Heap.{Block, HeapOf, IsKept}
use Rattle.os_laws.specs.HeapCalls.{IsFull, Laid, Allocated, Freed}
use Rattle.os_laws.specs.Kernel.{multiply_meaning, divide_meaning, alloc_meaning, deAlloc_meaning, init_meaning}
use Rattle.os_laws.specs.KernelCalls.{Multiplying, Dividing, DividingByZero, Laying, Allocating, AllocatingNothing, Deallocating}
use Rattle.os_laws.specs.Numbers.{product, multiply_steps, quotient}

-- A call of multiplication comes back with the product, and nothing else has changed.
abbrev pub MultiplyLaw : Type 0
MultiplyLaw =
    (subs : List Subroutine) (s : State) (g class : ℕ) → subroutine_at subs g ≡ multiply_meaning class
    → (c : Multiplying subs s g) → ComesBack subs s (multiply_steps c.y) (given_back s c.call.caller c.call.below (product c.x c.y))

-- A call of division by another number than 0 comes back with the quotient within 800 steps, and nothing else has
-- changed.
abbrev pub DivideLaw : Type 0
DivideLaw =
    (subs : List Subroutine) (s : State) (g class error : ℕ) → subroutine_at subs g ≡ divide_meaning class error
    → (c : Dividing subs s g) → (n : ℕ) × (n ≤ 800) × ComesBack subs s n (given_back s c.call.caller c.call.below (quotient c.x c.y))

-- A call of Memory.init comes back in 15 steps, and the heap is a heap without live blocks.
abbrev pub InitLaw : Type 0
InitLaw =
    (subs : List Subroutine) (s : State) (g class free : ℕ) → subroutine_at subs g ≡ init_meaning class free
    → (c : Laying subs s g free) → (s' : State) × ComesBack subs s 15 s' × Laid c.call free s'

-- A call of alloc comes back with a block, where some free part is long enough, in 60 steps and 18 for each free part
-- that is passed over.
abbrev pub AllocLaw : Type 0
AllocLaw =
    (subs : List Subroutine) (s : State) (g class error free : ℕ) → subroutine_at subs g ≡ alloc_meaning class error free
    → (c : Allocating subs s g free) → (n : ℕ) × (n ≤ 60 + 18 * c.k) × (s' : State) × ComesBack subs s n s' × Allocated c.call free c.size c.live s'

-- A call of deAlloc with a live block's place comes back in 13 steps, and the heap is a heap without it.
abbrev pub FreeLaw : Type 0
FreeLaw =
    (subs : List Subroutine) (s : State) (g class free : ℕ) → subroutine_at subs g ≡ deAlloc_meaning class free
    → (c : Deallocating subs s g free) → (s' : State) × ComesBack subs s 13 s' × Freed c.call free (c.front ++ c.back) s'

-- Division by 0, a size below 1, a size that is too great, and one for which no free part is long enough: the first
-- call is one of Sys.error.
pub record ErrorLaws : Type 0 where
  pub zero : (subs : List Subroutine) (s : State) (g class error : ℕ)
      → subroutine_at subs g ≡ divide_meaning class error
      → (c : DividingByZero subs s g) → ComesToCall c.call error (3 ∷ []) 7
  pub size : (subs : List Subroutine) (s : State) (g class error free : ℕ)
      → subroutine_at subs g ≡ alloc_meaning class error free
      → (c : AllocatingNothing subs s g) → ComesToCall c.call error (5 ∷ []) 7
  pub great : (subs : List Subroutine) (s : State) (g size class error free : ℕ)
      → subroutine_at subs g ≡ alloc_meaning class error free
      → 14335 < size → size < 32768 → (c : NextCall subs s g (size ∷ [])) → ComesToCall c error (6 ∷ []) 11
  pub full : (subs : List Subroutine) (s : State) (g size class error free : ℕ)
      → subroutine_at subs g ≡ alloc_meaning class error free
      → 1 ≤ size → size ≤ 14335 → (f : IsFull s free size) → (c : NextCall subs s g (size ∷ [])) → ComesToCall c error (6 ∷ []) (22 + 18 * length f.parts)

-- A store into a live block's words or the screen keeps the heap.
abbrev pub StoreLaw : Type 0
StoreLaw = (words : List ℕ) (first : ℕ) (parts : List ℕ) (live : List Block) (a w : ℕ) → HeapOf words first parts live → IsKept live a → HeapOf (slice_set words (a - heap) w) first parts live

-- No free part comes twice.
abbrev pub DistinctLaw : Type 0
DistinctLaw = (words : List ℕ) (first : ℕ) (parts : List ℕ) (live : List Block) → HeapOf words first parts live → IsDistinct nat_eq parts

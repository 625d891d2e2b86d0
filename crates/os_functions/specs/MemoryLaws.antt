-- Functions of Memory, and arrays (book, chapter 12).
use Rattle.std.specs.Prelude.{◌≡◌, ◌≤◌, ◌<◌, ◌+◌, ◌-◌, ◌*◌, ◌^◌, ◌⊎◌, ℕ, List, [], ◌∷◌, ◌++◌, length, Some, codes, slice_set}
use Rattle.word16.specs.Memory.{heap, keyboard}
use Rattle.jack_core.specs.Texts.{the_subroutines}
use Rattle.jack_core.specs.declared.program.Core.{Core}
use Rattle.jack_meaning.specs.Text.{Subroutine}
use Rattle.jack_meaning.specs.Meaning.{State, Stray, step}
use Rattle.os_laws.specs.Calls.{Stops, ComesToCall, after, given_back}
use Rattle.os_laws.specs.Heap.{word_at}
use Rattle.os_laws.specs.HeapCalls.{Allocated, Freed}
use Rattle.os_laws.specs.KernelCalls.{Allocating, AllocatingNothing, Deallocating}
use Rattle.os_laws.specs.Names.{IsShipped}
use Rattle.os_functions.specs.Calls.{routine_number, HasStatics, CallsNext, Returns, Gives, Leaves, Refuses}

-- Within this many steps there is no step: it would be at an address outside the memory.
abbrev pub StraysAt : List Subroutine → State → ℕ → ℕ → Type 0
StraysAt subs s most a = (keys : ℕ → ℕ) → (n : ℕ) × (n ≤ most) × (t : State) × (after subs keys n s ≡ Some t) × (step subs (keys n) t ≡ Stray a)

module _ {core : Core} (p : IsShipped core) (s : State) where
  -- the word at an address of heap or screen, and at the keyboard's the key of the fourth step
  abbrev pub PeekLaw : Type 0
  PeekLaw = (a : ℕ) → heap ≤ a → a < keyboard → (c : CallsNext p (codes "Memory") (codes "peek") s (a ∷ [])) → Gives c 5 (word_at s.words a)

  abbrev pub PeekKeyLaw : Type 0
  PeekKeyLaw =
      (c : CallsNext p (codes "Memory") (codes "peek") s (keyboard ∷ [])) (keys : ℕ → ℕ)
      → Stops (the_subroutines core) keys s (length s.frames) 5 (given_back s c.caller c.below (keys 3))

  abbrev pub PeekElsewhereLaw : Type 0
  PeekElsewhereLaw = (a : ℕ) → (a < heap) ⊎ (keyboard < a) → a < 2 ^ 16 → CallsNext p (codes "Memory") (codes "peek") s (a ∷ []) → StraysAt (the_subroutines core) s 3 a

  -- the word at an address of heap or screen becomes v
  abbrev pub PokeLaw : Type 0
  PokeLaw = (a v : ℕ) → heap ≤ a → a < keyboard → (c : CallsNext p (codes "Memory") (codes "poke") s (a ∷ v ∷ [])) → Leaves c 7 0 s.statics (slice_set s.words (a - heap) v)

  abbrev pub PokeElsewhereLaw : Type 0
  PokeElsewhereLaw = (a v : ℕ) → (a < heap) ⊎ (keyboard ≤ a) → a < 2 ^ 16 → CallsNext p (codes "Memory") (codes "poke") s (a ∷ v ∷ []) → StraysAt (the_subroutines core) s 4 a

  -- ---- arrays: blocks of the heap

  -- A new array is a new block, where some free part is long enough.
  abbrev pub NewLaw : Type 0
  NewLaw =
      (h : HasStatics p) (a : Allocating (the_subroutines core) s (routine_number p (codes "Array") (codes "new")) h.free)
      → (n : ℕ) × (n ≤ 67 + 18 * a.k) × (s' : State) × Returns (the_subroutines core) s n s' × Allocated a.call h.free a.size a.live s'

  -- one of a size below 1 is refused
  abbrev pub NewErrorLaw : Type 0
  NewErrorLaw = (a : AllocatingNothing (the_subroutines core) s (routine_number p (codes "Array") (codes "new"))) → Refuses p a.call 7 2

  -- each other size is asked of Memory.alloc
  abbrev pub NewAsksLaw : Type 0
  NewAsksLaw =
      (size : ℕ) → 1 ≤ size → size < 2 ^ 15 → (c : CallsNext p (codes "Array") (codes "new") s (size ∷ []))
      → ComesToCall c (routine_number p (codes "Memory") (codes "alloc")) (size ∷ []) 7

  -- An array that is a live block is one no more.
  abbrev pub DisposeLaw : Type 0
  DisposeLaw =
      (h : HasStatics p) (d : Deallocating (the_subroutines core) s (routine_number p (codes "Array") (codes "dispose")) h.free)
      → (s' : State) × Returns (the_subroutines core) s 18 s' × Freed d.call h.free (d.front ++ d.back) s'

pub record MemoryLaws : Type 0 where
  pub peek : {core : Core} (p : IsShipped core) (s : State) → PeekLaw p s
  pub peek_key : {core : Core} (p : IsShipped core) (s : State) → PeekKeyLaw p s
  pub peek_elsewhere : {core : Core} (p : IsShipped core) (s : State) → PeekElsewhereLaw p s
  pub poke : {core : Core} (p : IsShipped core) (s : State) → PokeLaw p s
  pub poke_elsewhere : {core : Core} (p : IsShipped core) (s : State) → PokeElsewhereLaw p s

pub record ArrayLaws : Type 0 where
  pub new : {core : Core} (p : IsShipped core) (s : State) → NewLaw p s
  pub new_error : {core : Core} (p : IsShipped core) (s : State) → NewErrorLaw p s
  pub new_asks : {core : Core} (p : IsShipped core) (s : State) → NewAsksLaw p s
  pub dispose : {core : Core} (p : IsShipped core) (s : State) → DisposeLaw p s

-- The calls that the laws step on the machine, each by its names, and what they leave.
use Rattle.std.specs.Prelude.{◌≡◌, ◌≤◌, ◌<◌, ◌+◌, ◌*◌, ℕ, List, [], ◌∷◌, ◌++◌, Some, codes}
use Rattle.machine_io.specs.Driven.{Goes}
use Rattle.jack_meaning.specs.Text.{Subroutine}
use Rattle.jack_meaning.specs.Meaning.{Frame, State, new_frame}
use Rattle.jack_core.specs.Texts.{the_subroutines}
use Rattle.jack_machine.specs.Whole.{Stands, jack_state}
use Rattle.jack_machine.specs.declared.jack.Jack.{Jack}
use Rattle.jack_os.specs.Routines.{multiply, divide, init, alloc, deAlloc}
use Rattle.os_laws.specs.Calls.{NextCall, given_back, after, no_key}
use Rattle.os_laws.specs.HeapCalls.{Laid, Allocated, Freed}
use Rattle.os_laws.specs.KernelCalls.{Multiplying, Dividing, DividingByZero, Laying, Allocating, AllocatingTooMuch, AllocatingNothing, Deallocating}
use Rattle.os_laws.specs.Names.{HasRoutine, names_in, number_of, error_number, HasNoSys, IsFree}
use Rattle.os_laws.specs.Numbers.{product, quotient, multiply_steps}

-- ---- what each law does to the machine

-- The machine has made n steps under key 0: for every history that it stood for, it stands for that one with these
-- moves added.
pub record GoesOn (old : Jack) (n : ℕ) (new : Jack) : Type 0 where
  pub state : after (the_subroutines old.core.now) no_key n (jack_state old) ≡ Some (jack_state new)
  pub history : Goes no_key (Stands old) old.moves n [] (Stands new) new.moves
  pub core : new.core ≡ old.core

-- memory was wanted after fewer steps than n
abbrev pub IsCut : Jack → ℕ → Jack → Type 0
IsCut old n new = (m : ℕ) × (m < n) × GoesOn old m new

-- ---- multiplication and division

-- The next step is the call of Math.multiply with two words.
pub record CallsMultiply (j : Jack) : Type 0 where
  pub math : HasRoutine j.core.now (codes "Math") multiply
  pub made : Multiplying (the_subroutines j.core.now) (jack_state j) (number_of math)

-- The next step is the call of Math.divide with two words, the second of which is not 0.
pub record CallsDivide (j : Jack) : Type 0 where
  pub math : HasRoutine j.core.now (codes "Math") divide
  pub errs : HasNoSys (names_in math)
  pub made : Dividing (the_subroutines j.core.now) (jack_state j) (number_of math)

-- the same, where it is 0
pub record CallsDivideByZero (j : Jack) : Type 0 where
  pub math : HasRoutine j.core.now (codes "Math") divide
  pub errs : HasNoSys (names_in math)
  pub made : DividingByZero (the_subroutines j.core.now) (jack_state j) (number_of math)

-- The product stands in the call's place, and all else is as it was; it took this many steps.
pub record HasMultiplied (old : Jack) (n : ℕ) (new : Jack) : Type 0 where
  pub gives : (c : CallsMultiply old) → jack_state new
      ≡ given_back (jack_state old) c.made.call.caller c.made.call.below (product c.made.x c.made.y)
  pub steps : (c : CallsMultiply old) → n ≡ multiply_steps c.made.y

-- The quotient stands in the call's place, and all else is as it was.
abbrev pub HasDivided : Jack → Jack → Type 0
HasDivided old new = (c : CallsDivide old) → jack_state new ≡ given_back (jack_state old) c.made.call.caller c.made.call.below (quotient c.made.x c.made.y)

-- ---- the heap

-- The next step is the call of Memory.init.
pub record CallsInit (j : Jack) : Type 0 where
  pub memory : HasRoutine j.core.now (codes "Memory") init
  pub free : ℕ
  pub is_free : IsFree (names_in memory) free
  pub made : Laying (the_subroutines j.core.now) (jack_state j) (number_of memory) free

-- The class Memory has alloc, whose static `free` has this number.
pub record HasAlloc (j : Jack) : Type 0 where
  pub memory : HasRoutine j.core.now (codes "Memory") alloc
  pub errs : HasNoSys (names_in memory)
  pub free : ℕ
  pub is_free : IsFree (names_in memory) free

-- The next step is the call of Memory.alloc, and there is room for the block.
pub record CallsAlloc (j : Jack) : Type 0 where
  pub has : HasAlloc j
  pub made : Allocating (the_subroutines j.core.now) (jack_state j) (number_of has.memory) has.free

-- the same, where there is no room for the block
pub record CallsAllocOfTooMuch (j : Jack) : Type 0 where
  pub has : HasAlloc j
  pub made : AllocatingTooMuch (the_subroutines j.core.now) (jack_state j)
      (number_of has.memory) has.free

-- the same, where the size is below 1
pub record CallsAllocOfNothing (j : Jack) : Type 0 where
  pub has : HasAlloc j
  pub made : AllocatingNothing (the_subroutines j.core.now) (jack_state j) (number_of has.memory)

-- The next step is the call of Memory.deAlloc with a live block.
pub record CallsDeAlloc (j : Jack) : Type 0 where
  pub memory : HasRoutine j.core.now (codes "Memory") deAlloc
  pub free : ℕ
  pub is_free : IsFree (names_in memory) free
  pub made : Deallocating (the_subroutines j.core.now) (jack_state j) (number_of memory) free

-- The heap is a heap without live blocks.
abbrev pub HasLaid : Jack → Jack → Type 0
HasLaid old new = (c : CallsInit old) → Laid c.made.call c.free (jack_state new)

-- The heap is a heap with the new block, for every list of live blocks that it had before; it took 60 steps and 18 for
-- each part passed over.
abbrev pub HasAllocated : Jack → ℕ → Jack → Type 0
HasAllocated old n new = (c : CallsAlloc old) → (n ≤ 60 + 18 * c.made.k) × Allocated c.made.call c.has.free c.made.size c.made.live (jack_state new)

-- The heap is a heap without the block, for every list of live blocks that it had before; it took 16 steps at most.
abbrev pub HasFreed : Jack → ℕ → Jack → Type 0
HasFreed old n new = (c : CallsDeAlloc old) → (n ≤ 16) × Freed c.made.call c.free (c.made.front ++ c.made.back) (jack_state new)

-- ---- errors

-- The call has called the subroutine of this number with this value; the machine stands at its first statement, and
-- nothing else has changed.
pub record StandsAt {subs : List Subroutine} {s : State} {g : ℕ} {values : List ℕ} (c : NextCall subs s g values) (error v : ℕ) (s' : State) : Type 0 where
  pub callee : Frame
  pub state : s' ≡ record s { frames = new_frame subs error (v ∷ []) ∷ callee ∷ c.caller ∷ c.below }

-- Sys.error has been called with 3, 5 or 6.
abbrev pub HasRefusedZero : Jack → Jack → Type 0
HasRefusedZero old new = (c : CallsDivideByZero old) → StandsAt c.made.call (error_number (names_in c.math)) 3 (jack_state new)

abbrev pub HasRefusedSize : Jack → Jack → Type 0
HasRefusedSize old new = (c : CallsAllocOfNothing old) → StandsAt c.made.call (error_number (names_in c.has.memory)) 5 (jack_state new)

abbrev pub HasRefusedRoom : Jack → Jack → Type 0
HasRefusedRoom old new = (c : CallsAllocOfTooMuch old) → StandsAt c.made.call (error_number (names_in c.has.memory)) 6 (jack_state new)

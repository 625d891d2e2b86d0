-- Arrays: calls of Memory.alloc and Memory.deAlloc within calls.
use Rattle.std.proofs.Common.{◌≡◌, ℕ, ◌<◌, ◌≤◌, List, [], ◌∷◌, Some, codes, refl, sym, subst, arith}
use Rattle.word16.specs.Words.{word_lt}
use Rattle.jack_core.specs.declared.program.Core.{Core}
use Rattle.jack_core.specs.Texts.{the_subroutines}
use Rattle.jack_meaning.specs.Text.{Value, Call as Calling, Open, NoMore, More, Do, Return, Text, End, Next, Subroutine}
use Rattle.jack_meaning.specs.Meaning.{Frame, State}
use Rattle.os_laws.specs.Calls.{ComesToCall}
use Rattle.os_laws.specs.Heap.{Block}
use Rattle.os_laws.specs.HeapCalls.{HasHeap, Holds, KeepsOthers}
use Rattle.os_laws.specs.Names.{IsShipped}
use Rattle.os_laws.proofs.Comparing.{below_one, not_less}
use Rattle.os_laws.proofs.Runs.{run}
use Rattle.os_functions.specs.Calls.{routine_number}
use Rattle.os_functions.specs.MemoryLaws.{NewErrorLaw, NewAsksLaw}
use Rattle.os_functions.proofs.Pieces.{in_call, tail, returns_value, erring, refuses_by}
use Rattle.os_functions.proofs.MemoryRoutines.{is_new_array}
use Rattle.os_functions.proofs.Named.{numbered, is_error, system_error, number_of}
use Rattle.os_functions.proofs.Texts.{new_array_body, dispose_array_body}
use Rattle.os_functions.proofs.Ways.{comes_to}

module _ (subs : List Subroutine) (g : ℕ) (ss ws : List ℕ) where
  -- a text that is at a call of this number with this value
  abbrev pub asking : ℕ → ℕ → Text
  asking alloc size = Next (Return 3 (Calling alloc (More (Value size) NoMore))) End

  abbrev pub giving_back : ℕ → ℕ → Text
  giving_back deAlloc o = Next (Do 1 (Calling deAlloc (More (Value o) NoMore))) (tail (dispose_array_body deAlloc))

  refuses : (error alloc size : ℕ) → word_lt size 1 ≡ 65535 → run subs 5 (in_call g 0 ss ws (new_array_body error alloc) (size ∷ []) []) ≡ Some (in_call g 0 ss ws (erring error 2 (tail (new_array_body error alloc))) (size ∷ []) [])
  refuses error alloc size h = rw h refl

  pub asks : (error alloc size : ℕ) → word_lt size 1 ≡ 0 → run subs 5 (in_call g 0 ss ws (new_array_body error alloc) (size ∷ []) []) ≡ Some (in_call g 0 ss ws (asking alloc size) (size ∷ []) [])
  asks error alloc size h = rw h refl

  pub gives_back : (deAlloc o : ℕ) → run subs 1 (in_call g o ss ws (dispose_array_body deAlloc) (o ∷ []) []) ≡ Some (in_call g o ss ws (giving_back deAlloc o) (o ∷ []) [])
  gives_back deAlloc o = refl

  -- after the call
  pub disposed : (deAlloc o : ℕ) → run subs 2 (in_call g o ss ws (Next (Do 1 (Value 0)) (tail (dispose_array_body deAlloc))) (o ∷ []) []) ≡ Some (in_call g o ss ws (returns_value 2 0 End) (o ∷ []) [])
  disposed deAlloc o = refl

-- ---- what the heap's calls leave, of a state with other frames

abbrev pub with_frames : State → List Frame → State
with_frames s fs = record s { frames = fs }

pub has_heap : (s : State) (fs : List Frame) (free : ℕ) (parts : List ℕ) (live : List Block) → HasHeap s free parts live → HasHeap (with_frames s fs) free parts live
has_heap s fs free parts live h = record { room = record { static = h.room.static; words = h.room.words }; heap = h.heap }

pub holds : (s : State) (fs : List Frame) (free : ℕ) (live : List Block) → Holds s free live → Holds (with_frames s fs) free live
holds s fs free live h = (h.0, has_heap s fs free h.0 live h.1)

-- the frames of either state do not count
pub keeps : (free : ℕ) (live : List Block) (s s' : State) (fs fs' : List Frame) → KeepsOthers free live s s' → KeepsOthers free live (with_frames s fs) (with_frames s' fs')
keeps free live s s' fs fs' k = record { statics = k.statics; same_length = k.same_length; words = k.words }

module _ {core : Core} (p : IsShipped core) (s : State) where
  abbrev subs : List Subroutine
  subs = the_subroutines core

  abbrev array_number : List ℕ → ℕ
  array_number name = routine_number p (codes "Array") name

  abbrev memory_number : List ℕ → ℕ
  memory_number name = routine_number p (codes "Memory") name

  pub new_error_law : NewErrorLaw p s
  new_error_law a =
      let error = system_error p in
      let alloc = number_of core p (codes "Memory") (codes "alloc") in
      refuses_by p s (codes "Array") (codes "new") (a.size ∷ []) a.call 5 7 (omega arith) _ (is_new_array core p) error (is_error core p) 0 2 (tail (new_array_body error alloc)) (a.size ∷ []) []
      (refuses subs (array_number (codes "new")) s.statics s.words error alloc a.size (below_one a.size a.small))

  pub at_one : (size : ℕ) → 1 ≤ size → size < 32768 → word_lt size 1 ≡ 0
  at_one size low high = not_less size 1 low high

  -- the frame that asks, and the same as it waits
  abbrev pub asking_frame : ℕ → ℕ → Frame
  asking_frame alloc size = (in_call (array_number (codes "new")) 0 s.statics s.words (asking subs 0 [] [] alloc size) (size ∷ []) []).frame

  abbrev pub waiting_frame : ℕ → Frame
  waiting_frame size = (in_call (array_number (codes "new")) 0 s.statics s.words (Next (Return 3 Open) End) (size ∷ []) []).frame

  pub new_asks_law : NewAsksLaw p s
  new_asks_law size low high c =
      let error = system_error p in
      let alloc = number_of core p (codes "Memory") (codes "alloc") in
      subst (λ (g : ℕ). ComesToCall c g (size ∷ []) 7) (sym (numbered core p (codes "Memory") (codes "alloc")))
      (comes_to subs s (array_number (codes "new")) (size ∷ []) c 5 _ (asking_frame alloc size) (waiting_frame size) alloc (size ∷ []) (is_new_array core p)
      (asks subs (array_number (codes "new")) s.statics s.words error alloc size (at_one size low high)) (λ below. refl))

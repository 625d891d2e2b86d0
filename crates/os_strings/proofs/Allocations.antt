-- Memory.alloc and Array.new called within a call: they come back with a block, or come to Sys.error.
use Rattle.std.proofs.Common.{◌≡◌, ◌⊎◌, inl, inr, ℕ, suc, ◌+◌, ◌*◌, ◌<◌, ◌≤◌, Bool, true, false, nat_lt, List, [], ◌∷◌, map, length, Option, Some, None, option_map, codes, refl, sym, ap, ◌∙◌, arith}
use Rattle.std.specs.Prelude.{slice_index, if◌then◌else◌}
use Rattle.std.specs.List.{AllByRecursion}
use Rattle.word16.specs.Words.{word_add, word_lt, word_gt}
use Rattle.jack_core.specs.declared.program.Core.{Core}
use Rattle.jack_core.specs.Texts.{the_subroutines}
use Rattle.jack_meaning.specs.Text.{Value, Call as Calling, Open, NoMore, More, Do, Return, Text, End, Next, Function, Subroutine, text_of}
use Rattle.jack_meaning.specs.Meaning.{Frame, State, subroutine_at, new_frame}
use Rattle.os_laws.specs.Calls.{NextCall}
use Rattle.os_laws.specs.Heap.{word_at, IsInHeap, part_at, part_of, passed_block}
use Rattle.os_laws.specs.HeapCalls.{IsFull}
use Rattle.os_laws.specs.Kernel.{alloc_body, alloc_meaning, alloc_end}
use Rattle.os_laws.specs.Names.{IsShipped}
use Rattle.os_laws.proofs.Allocating.{is_below}
use Rattle.os_laws.proofs.Basics.{enters}
use Rattle.os_laws.proofs.Comparing.{less, not_less}
use Rattle.os_laws.proofs.Errors.{all_short}
use Rattle.os_laws.proofs.Parts.{all_split, all_of_map, all_both}
use Rattle.os_laws.proofs.Runs.{Call, over, run, run_then}
use Rattle.os_laws.proofs.Searching.{at_text, at_loop, begins}
use Rattle.os_laws.proofs.Walking.{IsShort, last_of, walks_all}
use Rattle.os_functions.specs.Calls.{routine_number, HasStatics}
use Rattle.os_functions.proofs.ArrayRuns.{asks, asking}
use Rattle.os_functions.proofs.MemoryRoutines.{is_new_array, is_alloc}
use Rattle.os_functions.proofs.Named.{numbered, number_of, own_number, first_static}
use Rattle.os_functions.proofs.Pieces.{in_call, tail}
use Rattle.os_functions.proofs.Statics.{same_free}
use Rattle.os_functions.proofs.Texts.{routine, new_array_body}
use Rattle.os_functions.proofs.Ways.{Way, way_of_run, opened}
use Rattle.os_strings.proofs.Failing.{Fails, fails_by_call, fails_called, fails_then}

module _ (subs : List Subroutine) (g error free : ℕ) (ss ws : List ℕ) where
  abbrev at_start : ℕ → Call
  at_start size = at_text subs g error free ss ws (alloc_body error free) ss ws size 0 0 0

  -- a call of Sys.error with 6
  abbrev errs : ℕ → Text → Text
  errs k rest = Next (Do k (Calling error (More (Value 6) NoMore))) rest

  abbrev behind_great : Text
  behind_great = tail (tail (alloc_body error free))

  too_great : (size : ℕ) → word_lt size 1 ≡ 0 → word_gt size 14335 ≡ 65535 → run subs 9 (at_start size) ≡ Some (at_text subs g error free ss ws (errs 4 behind_great) ss ws size 0 0 0)
  too_great size h k = rw (h, k) refl

  abbrev behind_end : Text
  behind_end = tail (text_of (alloc_end error))

  at_end : (size p n : ℕ) → run subs 6 (at_loop subs g error free ss ws size 0 p n) ≡ Some (at_text subs g error free ss ws (errs 20 behind_end) ss ws size 0 p n)
  at_end size p n = refl

-- ---- alloc without room

-- a size for which there is no room: how many steps it takes to say so
abbrev pub NoRoom : State → ℕ → ℕ → ℕ → Type 0
NoRoom s free size most = ((14335 < size) × (9 ≤ most)) ⊎ ((size ≤ 14335) × (f : IsFull s free size) × (20 + 18 * length f.parts ≤ most))

module _ (subs : List Subroutine) (s : State) (g size class error free : ℕ) (low : 1 ≤ size) (high : size < 32768) (is : subroutine_at subs g ≡ alloc_meaning class error free) (c : NextCall subs s g (size ∷ [])) where
  abbrev Errs : ℕ → Type 0
  Errs most = Fails subs error 6 (suc (suc (length c.below))) (c.caller ∷ c.below) most (opened subs s g (size ∷ []) c) s.statics s.words

  great : 14335 < size → Errs 9
  great h =
      fails_by_call subs error 6 s g (size ∷ []) c (alloc_meaning class error free) is 9 (at_text subs g error free s.statics s.words End s.statics s.words size 0 0 0).frame 4 (behind_great subs g error free s.statics s.words)
      (too_great subs g error free s.statics s.words size (not_less size 1 low high) (less 14335 size h high))

  full : size ≤ 14335 → (f : IsFull s free size) → Errs (14 + (18 * length f.parts + 6))
  full few f =
      let parts = f.parts in
      let heap = f.heap in
      let first = slice_index s.statics free in
      let n = size + 1 in
      let start = at_start subs g error free s.statics s.words size in
      let searching = at_loop subs g error free s.statics s.words size first 0 n in
      let over_all = at_loop subs g error free s.statics s.words size 0 (last_of 0 parts) n in
      let last = at_text subs g error free s.statics s.words (errs subs g error free s.statics s.words 20 (behind_end subs g error free s.statics s.words)) s.statics s.words size 0 (last_of 0 parts) n in
      let sum : word_add size 1 ≡ n = omega (arith, few) in
      let lies = all_of_map IsInHeap (part_at s.words) parts (all_split IsInHeap (map (part_at s.words) parts) (map (part_of s.words) f.live) heap.inside).0 in
      let short = all_both (λ q. (2 ≤ word_at s.words q) × IsInHeap (part_at s.words q)) (λ q. word_at s.words q < n) (IsShort s.words n) parts (λ q a b. (a.0, a.1.0, a.1.1, b))
      (all_both (λ q. 2 ≤ word_at s.words q) (λ q. IsInHeap (part_at s.words q)) (λ q. (2 ≤ word_at s.words q) × IsInHeap (part_at s.words q)) parts (λ q a b. (a, b)) heap.long lies) (all_short s.words n parts f.none) in
      let begun : run subs 14 start ≡ Some searching =
      begins subs g error free s.statics s.words size (not_less size 1 low high) (not_less 14335 size few (omega arith)) ∙ ap (λ z. Some (at_loop subs g error free s.statics s.words size first 0 z)) sum in
      let ran = run_then subs 14 (18 * length parts + 6) start searching last begun
      (run_then subs (18 * length parts) 6 searching over_all last (walks_all subs g error free s.statics s.words size n (omega (arith, few)) parts first 0 heap.links short) (at_end subs g error free s.statics s.words size (last_of 0 parts) n)) in
      fails_by_call subs error 6 s g (size ∷ []) c (alloc_meaning class error free) is (14 + (18 * length parts + 6)) (at_text subs g error free s.statics s.words End s.statics s.words size 0 (last_of 0 parts) n).frame 20 (behind_end subs g error free s.statics s.words) ran

  abbrev deeper : (most most' : ℕ) → most ≤ most' → Errs most → Errs most'
  deeper most most' h f =
      let few = f.few in
      record { n = f.n; few = omega (arith, few, h); last = f.last; way = f.way; deep = f.deep; waits = f.waits; calls = f.calls }

  pub alloc_errs : (most : ℕ) → NoRoom s free size most → Errs most
  alloc_errs most (inl h) = deeper 9 most h.1 (great h.0)
  alloc_errs most (inr h) = deeper (14 + (18 * length h.1.parts + 6)) most (let e = h.2 in omega (arith, e)) (full h.0 h.1)

-- ---- the numbers to which names lead

module _ {core : Core} (p : IsShipped core) where
  abbrev pub number : List ℕ → List ℕ → ℕ
  number class name = routine_number p class name

  abbrev pub error_at : ℕ
  error_at = routine_number p (codes "Sys") (codes "error")

  abbrev pub alloc_at : ℕ
  alloc_at = routine_number p (codes "Memory") (codes "alloc")

  abbrev pub array_at : ℕ
  array_at = routine_number p (codes "Array") (codes "new")

  pub same_number : (class name : List ℕ) → number_of core p class name ≡ routine_number p class name
  same_number class name = sym (numbered core p class name)

  pub is_alloc_at : (h : HasStatics p) → subroutine_at (the_subroutines core) alloc_at ≡ alloc_meaning (own_number core p 3) error_at h.free
  is_alloc_at h =
      is_alloc core p ∙ ap (λ (k : ℕ). alloc_meaning (own_number core p 3) k (first_static core p 3)) (same_number (codes "Sys") (codes "error")) ∙ ap (λ (k : ℕ). alloc_meaning (own_number core p 3) error_at k) (same_free h)

  pub is_array_at : subroutine_at (the_subroutines core) array_at ≡ routine Function (own_number core p 0) 1 0 (new_array_body error_at alloc_at)
  is_array_at =
      is_new_array core p
      ∙ ap (λ (k : ℕ). routine Function (own_number core p 0) 1 0 (new_array_body k (number_of core p (codes "Memory") (codes "alloc")))) (same_number (codes "Sys") (codes "error"))
      ∙ ap (λ (k : ℕ). routine Function (own_number core p 0) 1 0 (new_array_body error_at k)) (same_number (codes "Memory") (codes "alloc"))

-- ---- Array.new without room

module _ {core : Core} (p : IsShipped core) (h : HasStatics p) (s : State) (size : ℕ) (low : 1 ≤ size) (high : size < 32768) (c : NextCall (the_subroutines core) s (array_at p) (size ∷ [])) where
  abbrev subs : List Subroutine
  subs = the_subroutines core

  abbrev below : List Frame
  below = c.caller ∷ c.below

  abbrev least : ℕ
  least = suc (length below)

  abbrev at_array : Text → Call
  at_array t = in_call (array_at p) 0 s.statics s.words t (size ∷ []) []

  abbrev middle : State
  middle = over below (at_array (asking subs 0 [] [] (alloc_at p) size))

  to_middle : Way subs least 5 (opened subs s (array_at p) (size ∷ []) c) middle
  to_middle =
      way_of_run subs below 5 (record { frame = new_frame subs (array_at p) (size ∷ []); statics = s.statics; words = s.words }) (at_array (asking subs 0 [] [] (alloc_at p) size))
      (ap (λ (z : Frame). run subs 5 (record { frame = z; statics = s.statics; words = s.words })) (enters subs (array_at p) _ (size ∷ []) (is_array_at p)) ∙ asks subs (array_at p) s.statics s.words (error_at p) (alloc_at p) size (not_less size 1 low high))

  abbrev inner : NextCall subs middle (alloc_at p) (size ∷ [])
  inner = record { top = (at_array (asking subs 0 [] [] (alloc_at p) size)).frame; caller = (at_array (Next (Return 3 Open) End)).frame; below = below; frames = refl; calls = refl }

  lacks : (most : ℕ) → NoRoom s h.free size most → NoRoom middle h.free size most
  lacks most (inl r) = inl r
  lacks most (inr r) = inr (r.0, record { parts = r.1.parts; live = r.1.live; heap = r.1.heap; none = r.1.none }, r.2)

  pub array_errs : (most : ℕ) → NoRoom s h.free size most → Fails subs (error_at p) 6 least below (5 + (1 + most)) (opened subs s (array_at p) (size ∷ []) c) s.statics s.words
  array_errs most r =
      fails_then subs (error_at p) 6 least 5 (1 + most) below (opened subs s (array_at p) (size ∷ []) c) middle s.statics s.words to_middle
      (fails_called subs (error_at p) 6 middle (alloc_at p) (size ∷ []) inner most s.statics s.words (alloc_errs subs middle (alloc_at p) size (own_number core p 3) (error_at p) h.free low high (is_alloc_at p h) inner most (lacks most r)))

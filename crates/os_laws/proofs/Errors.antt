-- Calls that come to a call of Sys.error.
use Rattle.std.proofs.Common.{◌≡◌, ◌≢◌, ◌⊎◌, ℕ, zero, suc, ◌+◌, ◌*◌, ◌<◌, ◌≤◌, Bool, true, false, nat_lt, List, [], ◌∷◌, map, length, Option, Some, None, option_map, option_and_then, refl, ap, ◌∙◌, subst, arith}
use Rattle.std.specs.Prelude.{slice_index, if◌then◌else◌}
use Rattle.std.specs.List.{AllByRecursion}
use Rattle.word16.specs.Words.{word_add, word_lt, word_gt}
use Rattle.jack_meaning.specs.Text.{Value, Call as Calling, Open, NoMore, More, Do, Text, End, Next, Subroutine, text_of}
use Rattle.jack_meaning.specs.Meaning.{Frame, State, subroutine_at, new_frame}
use Rattle.os_laws.specs.Calls.{NextCall, ComesToCall, after}
use Rattle.os_laws.specs.Kernel.{divide_body, divide_meaning, alloc_body, alloc_meaning, alloc_end}
use Rattle.os_laws.specs.Heap.{Block, word_at, IsInHeap, part_at, part_of, HeapOf, passed_block}
use Rattle.os_laws.specs.Laws.{ErrorLaws}
use Rattle.os_laws.proofs.Basics.{frame_with}
use Rattle.os_laws.proofs.Runs.{Call, over, run, next_at, run_then, run_before, run_over, run_ends}
use Rattle.os_laws.proofs.Comparing.{less, not_less, below_one}
use Rattle.os_laws.proofs.Allocating.{is_below}
use Rattle.os_laws.proofs.Parts.{all_split, all_of_map, all_both}
use Rattle.os_laws.proofs.Dividing as dividing
use Rattle.os_laws.proofs.Searching.{at_text, at_loop, begins}
use Rattle.os_laws.proofs.Walking.{IsShort, last_of, walks_all}

abbrev calling : Frame → ℕ → ℕ → ℕ → Text → Frame
calling f k error v rest = record f { text = Next (Do k (Calling error (More (Value v) NoMore))) rest }

-- where n steps of the call by itself lead to a call of a value, that call is made in n + 2
pub comes_to_call : (subs : List Subroutine) (s : State) (g : ℕ) (values : List ℕ) (c : NextCall subs s g values) (n : ℕ) (f : Frame) (k error v : ℕ) (rest : Text)
    → run subs n (record { frame = new_frame subs g values; statics = s.statics; words = s.words }) ≡ Some (record { frame = calling f k error v rest; statics = s.statics; words = s.words })
    → ComesToCall c error (v ∷ []) (suc (suc n))
comes_to_call subs s g values c n f k error v rest ran =
    let below = c.caller ∷ c.below in
    let first : Call = record { frame = new_frame subs g values; statics = s.statics; words = s.words } in
    let end : Call = record { frame = calling f k error v rest; statics = s.statics; words = s.words } in
    let waits : Frame = record f { text = Next (Do k Open) rest } in
    let last : State = record s { frames = new_frame subs error (v ∷ []) ∷ waits ∷ below } in
    let deep : length s.frames ≡ suc (length c.below) = ap length c.frames in
    let whole : (keys : ℕ → ℕ) → after subs keys (suc n) (over below first) ≡ Some last = λ keys. run_ends subs below keys n first end last ran (λ key. refl) in
    record {
      callee = waits;
      stops = λ keys. record {
        some = omega arith;
        leads = ap (option_and_then (after subs (λ i. keys (suc i)) (suc n))) (next_at subs s _ (keys 0) c.calls) ∙ whole (λ i. keys (suc i));
        there = omega (arith, deep);
        before = λ j low high. before subs s g values c n end ran keys j low high;
      };
    }
  where
    before : (subs : List Subroutine) (s : State) (g : ℕ) (values : List ℕ) (c : NextCall subs s g values) (n : ℕ) (end : Call)
        → run subs n (record { frame = new_frame subs g values; statics = s.statics; words = s.words }) ≡ Some end
        → (keys : ℕ → ℕ) (j : ℕ) → 0 < j → j < suc (suc n) → (t : State) × (after subs keys j s ≡ Some t) × (length t.frames ≢ suc (suc (length s.frames)))
    before subs s g values c n end ran keys zero low high = absurd (omega (arith, low))
    before subs s g values c n end ran keys (suc j) low high =
        let below = c.caller ∷ c.below in
        let first : Call = record { frame = new_frame subs g values; statics = s.statics; words = s.words } in
        let r = run_before subs n j first end ran (omega (arith, high)) in
        let deep : length s.frames ≡ suc (length c.below) = ap length c.frames in (
          over below r.0,
          ap (option_and_then (after subs (λ i. keys (suc i)) j)) (next_at subs s _ (keys 0) c.calls) ∙ run_over subs below (λ i. keys (suc i)) j first r.0 r.1,
          (λ e. omega (arith, deep, e)),
        )

-- ---- the runs up to the error

-- what follows the first statement
abbrev tail : Text → Text
tail End = End
tail (Next t rest) = rest

abbrev erring : ℕ → ℕ → ℕ → Text → Text
erring k error v rest = Next (Do k (Calling error (More (Value v) NoMore))) rest

module _ (subs : List Subroutine) (g error free : ℕ) (ss ws : List ℕ) where
  by_zero : (x : ℕ) → run subs 5 (dividing.at_text subs g ss ws (divide_body error) x 0 0 0 0 0 0) ≡ Some (dividing.at_text subs g ss ws (erring 2 error 3 (tail (divide_body error))) x 0 0 0 0 0 0)
  by_zero x = refl

  too_small : (size : ℕ) → word_lt size 1 ≡ 65535 → run subs 5 (at_text subs g error free ss ws (alloc_body error free) ss ws size 0 0 0) ≡ Some (at_text subs g error free ss ws (erring 2 error 5 (tail (alloc_body error free))) ss ws size 0 0 0)
  too_small size h = rw h refl

  too_great : (size : ℕ) → word_lt size 1 ≡ 0 → word_gt size 14335 ≡ 65535 → run subs 9 (at_text subs g error free ss ws (alloc_body error free) ss ws size 0 0 0) ≡ Some (at_text subs g error free ss ws (erring 4 error 6 (tail (tail (alloc_body error free)))) ss ws size 0 0 0)
  too_great size h k = rw (h, k) refl

  at_end : (size p n : ℕ) → run subs 6 (at_loop subs g error free ss ws size 0 p n) ≡ Some (at_text subs g error free ss ws (erring 20 error 6 (tail (text_of (alloc_end error)))) ss ws size 0 p n)
  at_end size p n = refl

-- ---- where no part is long enough

mapped : (o : Option ℕ) → option_map (λ j. suc j) o ≡ None → o ≡ None
mapped None e = refl
mapped (Some j) e = absurd (cc e)

some-none : (k : ℕ) → ◌≡◌ {A = Option ℕ} (Some k) None → ⊥
some-none k e = cc e

short_with : (ws : List ℕ) (n c : ℕ) (cs : List ℕ) → (passed_block ws n cs ≡ None → AllByRecursion (λ q. word_at ws q < n) cs) → (b : Bool) → nat_lt (word_at ws c) n ≡ b
    → (if b then option_map (λ j. suc j) (passed_block ws n cs) else Some 0) ≡ None → AllByRecursion (λ q. word_at ws q < n) (c ∷ cs)
short_with ws n c cs more true t e = (is_below _ _ t, more (mapped (passed_block ws n cs) e))
short_with ws n c cs more false t e = absurd (some-none 0 e)

pub all_short : (ws : List ℕ) (n : ℕ) (parts : List ℕ) → passed_block ws n parts ≡ None → AllByRecursion (λ q. word_at ws q < n) parts
all_short ws n [] e = tt
all_short ws n (c ∷ cs) e = short_with ws n c cs (all_short ws n cs) (nat_lt (word_at ws c) n) refl e

-- ---- the laws

zero_law : (subs : List Subroutine) (s : State) (g x class error : ℕ) → subroutine_at subs g ≡ divide_meaning class error → (c : NextCall subs s g (x ∷ 0 ∷ [])) → ComesToCall c error (3 ∷ []) 7
zero_law subs s g x class error kernel c =
    comes_to_call subs s g (x ∷ 0 ∷ []) c 5 (dividing.at_text subs g s.statics s.words End x 0 0 0 0 0 0).frame 2 error 3 (tail (divide_body error))
    (ap (λ (z : Subroutine). run subs 5 (record { frame = frame_with g z (x ∷ 0 ∷ []); statics = s.statics; words = s.words })) kernel ∙ by_zero subs g error 0 s.statics s.words x)

size_law : (subs : List Subroutine) (s : State) (g size class error free : ℕ) → (size ≡ 0) ⊎ (32768 ≤ size) → subroutine_at subs g ≡ alloc_meaning class error free → (c : NextCall subs s g (size ∷ [])) → ComesToCall c error (5 ∷ []) 7
size_law subs s g size class error free h kernel c =
    comes_to_call subs s g (size ∷ []) c 5 (at_text subs g error free s.statics s.words End s.statics s.words size 0 0 0).frame 2 error 5 (tail (alloc_body error free))
    (ap (λ (z : Subroutine). run subs 5 (record { frame = frame_with g z (size ∷ []); statics = s.statics; words = s.words })) kernel ∙ too_small subs g error free s.statics s.words size (below_one size h))

great_law : (subs : List Subroutine) (s : State) (g size class error free : ℕ) → 14335 < size → size < 32768 → subroutine_at subs g ≡ alloc_meaning class error free → (c : NextCall subs s g (size ∷ [])) → ComesToCall c error (6 ∷ []) 11
great_law subs s g size class error free low high kernel c =
    comes_to_call subs s g (size ∷ []) c 9 (at_text subs g error free s.statics s.words End s.statics s.words size 0 0 0).frame 4 error 6 (tail (tail (alloc_body error free)))
    (ap (λ (z : Subroutine). run subs 9 (record { frame = frame_with g z (size ∷ []); statics = s.statics; words = s.words })) kernel
    ∙ too_great subs g error free s.statics s.words size (not_less size 1 (omega (arith, low)) high) (less 14335 size low high))

full_law : (subs : List Subroutine) (s : State) (g size class error free : ℕ) (parts : List ℕ) (live : List Block) → 1 ≤ size → size ≤ 14335 → subroutine_at subs g ≡ alloc_meaning class error free
    → HeapOf s.words (slice_index s.statics free) parts live → passed_block s.words (size + 1) parts ≡ None → (c : NextCall subs s g (size ∷ [])) → ComesToCall c error (6 ∷ []) (22 + 18 * length parts)
full_law subs s g size class error free parts live low high kernel heap none c =
    let first = slice_index s.statics free in
    let n = size + 1 in
    let start = at_text subs g error free s.statics s.words (alloc_body error free) s.statics s.words size 0 0 0 in
    let searching = at_loop subs g error free s.statics s.words size first 0 n in
    let over_all = at_loop subs g error free s.statics s.words size 0 (last_of 0 parts) n in
    let last = at_text subs g error free s.statics s.words (erring 20 error 6 (tail (text_of (alloc_end error)))) s.statics s.words size 0 (last_of 0 parts) n in
    let sum : word_add size 1 ≡ n = omega (arith, high) in
    let lies = all_of_map IsInHeap (part_at s.words) parts (all_split IsInHeap (map (part_at s.words) parts) (map (part_of s.words) live) heap.inside).0 in
    let short = all_both (λ q. (2 ≤ word_at s.words q) × IsInHeap (part_at s.words q)) (λ q. word_at s.words q < n) (IsShort s.words n) parts (λ q a b. (a.0, a.1.0, a.1.1, b))
    (all_both (λ q. 2 ≤ word_at s.words q) (λ q. IsInHeap (part_at s.words q)) (λ q. (2 ≤ word_at s.words q) × IsInHeap (part_at s.words q)) parts (λ q a b. (a, b)) heap.long lies) (all_short s.words n parts none) in
    let begun : run subs 14 start ≡ Some searching =
    begins subs g error free s.statics s.words size (not_less size 1 low (omega (arith, high))) (not_less 14335 size high (omega arith)) ∙ ap (λ z. Some (at_loop subs g error free s.statics s.words size first 0 z)) sum in
    let ran = run_then subs 14 (18 * length parts + 6) start searching last begun
    (run_then subs (18 * length parts) 6 searching over_all last (walks_all subs g error free s.statics s.words size n (omega (arith, high)) parts first 0 heap.links short) (at_end subs g error free s.statics s.words size (last_of 0 parts) n)) in
    subst (λ k. ComesToCall c error (6 ∷ []) k) (let e : suc (suc (14 + (18 * length parts + 6))) ≡ 22 + 18 * length parts = omega arith in e)
    (comes_to_call subs s g (size ∷ []) c (14 + (18 * length parts + 6)) (at_text subs g error free s.statics s.words End s.statics s.words size 0 (last_of 0 parts) n).frame 20 error 6 (tail (text_of (alloc_end error)))
    (ap (λ (z : Subroutine). run subs (14 + (18 * length parts + 6)) (record { frame = frame_with g z (size ∷ []); statics = s.statics; words = s.words })) kernel ∙ ran))

pub laws : ErrorLaws
laws = record {
  zero = λ subs s g class error kernel c. zero_law subs s g c.x class error kernel c.call;
  size = λ subs s g class error free kernel c. size_law subs s g c.size class error free c.small kernel c.call;
  great = λ subs s g size class error free kernel low high c. great_law subs s g size class error free low high kernel c;
  full = λ subs s g size class error free kernel low high f c. full_law subs s g size class error free f.parts f.live low high kernel f.heap f.none c;
}

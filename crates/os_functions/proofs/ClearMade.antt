-- The screen cleared: one loop over its words.
use Rattle.std.proofs.Common.{◌≡◌, ◌≢◌, ⊎_elim, ℕ, zero, suc, ◌+◌, ◌-◌, ◌*◌, ◌%◌, ◌<◌, ◌≤◌, List, [], ◌∷◌, length, Some, codes, refl, sym, ap, ◌∙◌, subst, arith}
use Rattle.std.specs.Prelude.{slice_set}
use Rattle.std.proofs.lemmas.Bool.{cases_lt}
use Rattle.std.proofs.lemmas.List.{length-set}
use Rattle.std.proofs.lemmas.Nat.Bits.{bit_at_above}
use Rattle.word16.specs.Words.{word_sub}
use Rattle.jack_core.specs.declared.program.Core.{Core}
use Rattle.jack_core.specs.Texts.{the_subroutines}
use Rattle.jack_meaning.specs.Text.{End, Function, Subroutine}
use Rattle.jack_meaning.specs.Meaning.{State, subroutine_at}
use Rattle.os_laws.specs.Heap.{word_at}
use Rattle.os_laws.specs.Names.{IsShipped}
use Rattle.os_laws.specs.Numbers.{bit}
use Rattle.os_laws.proofs.Runs.{run, run_then}
use Rattle.os_laws.proofs.Storing.{other_word}
use Rattle.os_laws.proofs.Walking.{reaches}
use Rattle.os_functions.specs.Calls.{routine_number}
use Rattle.os_functions.specs.RectangleLaws.{IsColoured, ClearLaw, RectangleLaws}
use Rattle.os_functions.specs.ScreenLaws.{pixel_address}
use Rattle.os_functions.proofs.FillMade.{rectangle_law, rectangle_error_law}
use Rattle.os_functions.proofs.FillRuns.{at_clear, clear_begins, clear_turn, clear_ends}
use Rattle.os_functions.proofs.FillTexts.{clear_loop, clear_body}
use Rattle.os_functions.proofs.Named.{leads, own_number}
use Rattle.os_functions.proofs.Pieces.{returns_value, leaves_by}
use Rattle.os_functions.proofs.StringFacts.{same_or_not, this_word}
use Rattle.os_functions.proofs.Texts.{routine}

-- the words from the n-th of the screen on are 0, and no other has changed
record IsCleared (first : List ℕ) (n : ℕ) (ws : List ℕ) : Type 0 where
  long : length ws ≡ 22528
  cleared : (a : ℕ) → 16384 + n ≤ a → a < 24576 → word_at ws a ≡ 0
  kept : (a : ℕ) → 2048 ≤ a → a < 16384 + n → word_at ws a ≡ word_at first a
  small : (a : ℕ) → 2048 ≤ a → word_at first a < 65536 → word_at ws a < 65536

module _ (first : List ℕ) where
  none_cleared : length first ≡ 22528 → IsCleared first 8192 first
  none_cleared long = record { long = long; cleared = λ a l h. absurd (omega (arith, l, h)); kept = λ a l h. refl; small = λ a l h. h }

  next_cleared : (ws : List ℕ) (n : ℕ) → n < 8192 → IsCleared first (n + 1) ws → IsCleared first n (slice_set ws (16384 + n - 2048) 0)
  next_cleared ws n few was =
      let at = 16384 + n in
      let here = this_word ws at 0 was.long (omega arith) (omega (arith, few)) in
      let other : (a : ℕ) → 2048 ≤ a → a ≢ at → word_at (slice_set ws (at - 2048) 0) a ≡ word_at ws a = λ a l d. other_word ws at a 0 (omega arith) l d in
      record {
        long = length-set ws (at - 2048) 0 ∙ was.long;
        cleared = λ a l h. ⊎_elim (λ (e : a ≡ at). ap (word_at (slice_set ws (at - 2048) 0)) e ∙ here) (λ (d : a ≢ at). other a (omega (arith, l)) d ∙ was.cleared a (more a n l d) h) (same_or_not a at);
        kept = λ a l h. other a l (λ e. omega (arith, e, h)) ∙ was.kept a l (omega (arith, h));
        small = λ a l h.
            ⊎_elim (λ (e : a ≡ at). let f : word_at (slice_set ws (at - 2048) 0) a ≡ 0 = ap (word_at (slice_set ws (at - 2048) 0)) e ∙ here in omega (arith, f))
            (λ (d : a ≢ at). let f = other a l d in let g = was.small a l h in omega (arith, f, g)) (same_or_not a at);
      }
    where
      more : (a n : ℕ) → 16384 + n ≤ a → a ≢ 16384 + n → 16384 + (n + 1) ≤ a
      more a n l d = ⊎_elim (λ (s : 16384 + n < a). omega (arith, s)) (λ (k : a ≤ 16384 + n). absurd (d (let e : a ≡ 16384 + n = omega (arith, k, l) in e))) (cases_lt (16384 + n) a)

  all_white : (ws : List ℕ) → length first ≡ 22528 → IsCleared first 0 ws → IsColoured first (λ x y. Unit {0}) 0 ws
  all_white ws long was = record {
    same_length = was.long ∙ sym long;
    inside = λ x y hx hy u. ap (λ w. bit w (x % 16)) (was.cleared (pixel_address x y) (omega arith) (omega (arith, hx, hy))) ∙ bit_at_above 0 0 (x % 16) (omega arith) (omega arith);
    others = λ x y hx hy o. absurd (o tt);
    each = λ a l h. was.small a l h;
    heap = λ a l h. was.kept a l (omega (arith, h));
  }

module _ (subs : List Subroutine) (g : ℕ) (ss first : List ℕ) where
  turns : (n : ℕ) (ws : List ℕ) → n ≤ 8192 → IsCleared first n ws → (ws' : List ℕ) × IsCleared first 0 ws' × (run subs (10 * n + 3) (at_clear subs g ss clear_loop 16384 n ws) ≡ Some (at_clear subs g ss (returns_value 6 0 End) 16384 0 ws'))
  turns zero ws few was = (ws, was, clear_ends subs g ss ws)
  turns (suc n) ws few was =
      let count : 10 * suc n + 3 ≡ 10 + (10 * n + 3) = omega arith in
      let ws1 = slice_set ws (16384 + n - 2048) 0 in
      let before : IsCleared first (n + 1) ws = subst (λ k. IsCleared first k ws) (let e : suc n ≡ n + 1 = omega arith in e) was in
      let (ws', is, ran) = turns n ws1 (omega (arith, few)) (next_cleared first ws n (omega (arith, few)) before) in
      let turn = clear_turn subs g ss ws 16384 n n (16384 + n) (16384 + n - 2048) (let e : word_sub (suc n) 1 ≡ n = omega (arith, few) in e) (reaches 16384 n (omega arith) (omega (arith, few))) refl in (
        ws',
        is,
        ap (λ k. run subs k (at_clear subs g ss clear_loop 16384 (suc n) ws)) count
            ∙ run_then subs 10 (10 * n + 3) (at_clear subs g ss clear_loop 16384 (suc n) ws) (at_clear subs g ss clear_loop 16384 n ws1) (at_clear subs g ss (returns_value 6 0 End) 16384 0 ws') turn ran,
      )

module _ {core : Core} (p : IsShipped core) (s : State) where
  is_clear : subroutine_at (the_subroutines core) (routine_number p (codes "Screen") (codes "clearScreen")) ≡ routine Function (own_number core p 5) 0 2 clear_body
  is_clear = leads core p 5 1 (refl, refl)

  -- this many turns; the number is a variable, for a run of this many steps is not to be computed
  cleared_by : (m : ℕ) → m ≡ 8192 → ClearLaw p s
  cleared_by m e long c =
      let subs = the_subroutines core in
      let g = routine_number p (codes "Screen") (codes "clearScreen") in
      let start : IsCleared s.words m s.words = subst (λ k. IsCleared s.words k s.words) (sym e) (none_cleared s.words long) in
      let (ws', is, ran) = turns subs g s.statics s.words m s.words (omega (arith, e)) start in
      let begins : run subs 4 (at_clear subs g s.statics clear_body 0 0 s.words) ≡ Some (at_clear subs g s.statics clear_loop 16384 m s.words) =
      clear_begins subs g s.statics s.words ∙ ap (λ (k : ℕ). Some (at_clear subs g s.statics clear_loop 16384 k s.words)) (sym e) in (
        ws',
        all_white s.words ws' long is,
        leaves_by p s (codes "Screen") (codes "clearScreen") [] c (4 + (10 * m + 3)) 82000 (omega (arith, e)) _ is_clear 0 s.statics ws' 6 0 End [] (16384 ∷ 0 ∷ [])
            (run_then subs 4 (10 * m + 3) (at_clear subs g s.statics clear_body 0 0 s.words) (at_clear subs g s.statics clear_loop 16384 m s.words) (at_clear subs g s.statics (returns_value 6 0 End) 16384 0 ws') begins ran),
      )

  clear_law : ClearLaw p s
  clear_law long c = cleared_by 8192 refl long c

pub law : RectangleLaws
law = record { rectangle = λ p s. rectangle_law p s; rectangle_error = λ p s. rectangle_error_law p s; clear = λ p s. clear_law p s }

-- A whole call of division.
use Rattle.std.proofs.Common.{◌≡◌, pos, neg_ℤ, nat_lt, true, ℕ, zero, suc, ◌+◌, ◌-◌, ◌*◌, ◌/◌, ◌%◌, ◌<◌, ◌≤◌, false, nat_eq, List, [], ◌∷◌, Some, ⊎_elim, refl, sym, ap, ◌∙◌, subst, arith}
use Rattle.std.proofs.lemmas.Bool.{cases_lt}
use Rattle.std.proofs.lemmas.Bool.Decides.{nat_tests}
use Rattle.std.proofs.lemmas.Nat.{div-mul-add}
use Rattle.word16.specs.Words.{word_lt, word_neg, word_not}
use Rattle.jack_meaning.specs.Text.{Less, Literal, Value, Name, Argument, Local, Binary, If, Return, Text, End, Next, Subroutine}
use Rattle.os_laws.specs.Kernel.{made_positive, divide_loop, divide_body, divide_meaning}
use Rattle.jack_meaning.specs.Meaning.{Frame, State, subroutine_at, new_frame}
use Rattle.os_laws.specs.Calls.{NextCall, ComesBack, given_back}
use Rattle.os_laws.specs.Numbers.{word_of, quotient}
use Rattle.os_laws.specs.Laws.{DivideLaw}
use Rattle.os_laws.proofs.Basics.{enters}
use Rattle.os_laws.proofs.Runs.{Call, run, run_then}
use Rattle.os_laws.proofs.Returns.{comes_back}
use Rattle.os_laws.proofs.Comparing.{negative, not_negative}
use Rattle.os_laws.proofs.Dividing.{at_text, at_loop, divides}

-- what is left before the sign of y, and of x, is taken
abbrev before_y : Text
before_y = Next (If 7 false (Binary Less (Name (Argument 1)) (Literal 0)) (made_positive 8 1) End) divide_loop

abbrev before_x : Text
before_x = Next (If 4 false (Binary Less (Name (Argument 0)) (Literal 0)) (made_positive 5 0) End) before_y

module _ (subs : List Subroutine) (g error : ℕ) (ss ws : List ℕ) where
  opening : (x y : ℕ) → nat_eq y 0 ≡ false → run subs 7 (at_text subs g ss ws (divide_body error) x y 0 0 0 0 0) ≡ Some (at_text subs g ss ws before_x x y 32768 0 0 0 0)
  opening x y h = rw h refl

  x_positive : (x y s : ℕ) → word_lt x 0 ≡ 0 → run subs 4 (at_text subs g ss ws before_x x y 32768 s 0 0 0) ≡ Some (at_text subs g ss ws before_y x y 32768 s 0 0 0)
  x_positive x y s h = rw h refl

  x_negative : (x y s : ℕ) → word_lt x 0 ≡ 65535 → run subs 10 (at_text subs g ss ws before_x x y 32768 s 0 0 0) ≡ Some (at_text subs g ss ws before_y (word_neg x) y 32768 (word_not s) 0 0 0)
  x_negative x y s h = rw h refl

  y_positive : (x y s : ℕ) → word_lt y 0 ≡ 0 → run subs 4 (at_text subs g ss ws before_y x y 32768 s 0 0 0) ≡ Some (at_loop subs g ss ws x y 32768 s 0 0 0)
  y_positive x y s h = rw h refl

  y_negative : (x y s : ℕ) → word_lt y 0 ≡ 65535 → run subs 10 (at_text subs g ss ws before_y x y 32768 s 0 0 0) ≡ Some (at_loop subs g ss ws x (word_neg y) 32768 (word_not s) 0 0 0)
  y_negative x y s h = rw h refl

  ends_positive : (x y q r : ℕ) → run subs 8 (at_loop subs g ss ws x y 32768 0 q r 16) ≡ Some (at_text subs g ss ws (Next (Return 22 (Value q)) End) x y 32768 0 q r 16)
  ends_positive x y q r = refl

  ends_negative : (x y q r : ℕ) → run subs 9 (at_loop subs g ss ws x y 32768 65535 q r 16) ≡ Some (at_text subs g ss ws (Next (Return 21 (Value (word_neg q))) (Next (Return 22 (Name (Local 2))) End)) x y 32768 65535 q r 16)
  ends_negative x y q r = refl

  -- the signs: both words plain, the first or the second below 0, or both
  abbrev from_x : ℕ → ℕ → Call
  from_x x y = at_text subs g ss ws before_x x y 32768 0 0 0 0

  abbrev from_y : ℕ → ℕ → ℕ → Call
  from_y x y s = at_text subs g ss ws before_y x y 32768 s 0 0 0

  abbrev from_start : ℕ → ℕ → ℕ → Call
  from_start x y s = at_loop subs g ss ws x y 32768 s 0 0 0

  pub signs_plain : (x y : ℕ) → word_lt x 0 ≡ 0 → word_lt y 0 ≡ 0 → run subs 8 (from_x x y) ≡ Some (from_start x y 0)
  signs_plain x y h k = run_then subs 4 4 (from_x x y) (from_y x y 0) (from_start x y 0) (x_positive x y 0 h) (y_positive x y 0 k)

  pub signs_second : (x y : ℕ) → word_lt x 0 ≡ 0 → word_lt y 0 ≡ 65535 → run subs 14 (from_x x y) ≡ Some (from_start x (word_neg y) 65535)
  signs_second x y h k = run_then subs 4 10 (from_x x y) (from_y x y 0) (from_start x (word_neg y) 65535) (x_positive x y 0 h) (y_negative x y 0 k)

  pub signs_first : (x y : ℕ) → word_lt x 0 ≡ 65535 → word_lt y 0 ≡ 0 → run subs 14 (from_x x y) ≡ Some (from_start (word_neg x) y 65535)
  signs_first x y h k = run_then subs 10 4 (from_x x y) (from_y (word_neg x) y 65535) (from_start (word_neg x) y 65535) (x_negative x y 0 h) (y_positive (word_neg x) y 65535 k)

  pub signs_both : (x y : ℕ) → word_lt x 0 ≡ 65535 → word_lt y 0 ≡ 65535 → run subs 20 (from_x x y) ≡ Some (from_start (word_neg x) (word_neg y) 0)
  signs_both x y h k = run_then subs 10 10 (from_x x y) (from_y (word_neg x) y 65535) (from_start (word_neg x) (word_neg y) 0) (x_negative x y 0 h) (y_negative (word_neg x) y 65535 k)

-- ---- the loop from its start

pub record Found (subs : List Subroutine) (g : ℕ) (ss ws : List ℕ) (a b s : ℕ) : Type 0 where
  pub steps : ℕ
  pub x' : ℕ
  pub r' : ℕ
  pub few : steps ≤ 736
  pub ran : run subs steps (at_loop subs g ss ws a b 32768 s 0 0 0) ≡ Some (at_loop subs g ss ws x' b 32768 s (a / b) r' 16)

found : (subs : List Subroutine) (g : ℕ) (ss ws : List ℕ) (a b s : ℕ) → a < 65536 → 0 < b → b ≤ 32768 → Found subs g ss ws a b s
found subs g ss ws a b s ha some most =
    let d = divides subs g ss ws b s some most 16 0 refl a 0 a 0 0 (omega arith) ha (omega arith) (omega arith) some in
    let start : a ≡ a * 1 = omega arith in
    let quotient_is : d.q' ≡ a / b = sym (div-mul-add d.q' b d.r' d.less) ∙ ap (λ n. n / b) (sym d.sum) in
    record {
      steps = d.steps;
      x' = d.x';
      r' = d.r';
      few = omega (arith, d.few);
      ran = ap (λ z. run subs d.steps (at_loop subs g ss ws z b 32768 s 0 0 0)) start ∙ d.ran ∙ ap (λ z. Some (at_loop subs g ss ws d.x' b 32768 s z d.r' 16)) quotient_is;
    }

-- ---- signs

negated : (n : ℕ) → n < 65536 → word_of (neg_ℤ (pos n)) ≡ word_neg n
negated zero h = refl
negated (suc n) h = omega (arith, h)

plain : (x : ℕ) → x < 32768 → nat_lt x 32768 ≡ true
plain x h = grind (arith, nat_tests)

minus : (x : ℕ) → 32768 ≤ x → nat_lt x 32768 ≡ false
minus x h = grind (arith, nat_tests)

small : (a b : ℕ) → a < 65536 → a / b < 65536
small a b h = omega (arith, h)

both_plain : (x y : ℕ) → x < 32768 → y < 32768 → quotient x y ≡ x / y
both_plain x y hx hy = rw (plain x hx, plain y hy) (let s = small x y (omega (arith, hx)) in omega (arith, s))

first_minus : (x y : ℕ) → 32768 ≤ x → x < 65536 → y < 32768 → quotient x y ≡ word_neg (word_neg x / y)
first_minus x y lx hx hy =
    let e : suc (65535 - x) ≡ word_neg x = omega (arith, lx, hx) in
    rw (minus x lx, plain y hy) (negated (suc (65535 - x) / y) (small _ y (omega (arith, lx))) ∙ ap (λ n. word_neg (n / y)) e)

second_minus : (x y : ℕ) → x < 32768 → 32768 ≤ y → y < 65536 → quotient x y ≡ word_neg (x / word_neg y)
second_minus x y hx ly hy =
    let e : suc (65535 - y) ≡ word_neg y = omega (arith, ly, hy) in
    rw (plain x hx, minus y ly) (negated (x / suc (65535 - y)) (small x _ (omega (arith, hx))) ∙ ap (λ n. word_neg (x / n)) e)

both_minus : (x y : ℕ) → 32768 ≤ x → x < 65536 → 32768 ≤ y → y < 65536 → quotient x y ≡ word_neg x / word_neg y
both_minus x y lx hx ly hy =
    let e : suc (65535 - x) ≡ word_neg x = omega (arith, lx, hx) in
    let f : suc (65535 - y) ≡ word_neg y = omega (arith, ly, hy) in
    let s = small (suc (65535 - x)) (suc (65535 - y)) (omega (arith, lx)) in
    rw (minus x lx, minus y ly) ((let r : suc (65535 - x) / suc (65535 - y) % 65536 ≡ suc (65535 - x) / suc (65535 - y) = omega (arith, s) in r) ∙ ap (λ n. n / suc (65535 - y)) e ∙ ap (λ n. word_neg x / n) f)

-- ---- the whole call

module _ (subs : List Subroutine) (s : State) (g x y class error : ℕ) (hx : x < 65536) (hy : y < 65536) (some : 0 < y) (kernel : subroutine_at subs g ≡ divide_meaning class error) (c : NextCall subs s g (x ∷ y ∷ [])) where
  abbrev Goal : Type 0
  Goal = (n : ℕ) × (n ≤ 800) × ComesBack subs s n (given_back s c.caller c.below (quotient x y))

  abbrev first : Call
  first = at_text subs g s.statics s.words (divide_body error) x y 0 0 0 0 0

  entered : new_frame subs g (x ∷ y ∷ []) ≡ first.frame
  entered = enters subs g (divide_meaning class error) (x ∷ y ∷ []) kernel

  -- a run that begins with the signs
  begun : (m : ℕ) (a b sign : ℕ) → run subs m (at_text subs g s.statics s.words before_x x y 32768 0 0 0 0) ≡ Some (at_loop subs g s.statics s.words a b 32768 sign 0 0 0)
      → run subs (7 + m) (record { frame = new_frame subs g (x ∷ y ∷ []); statics = s.statics; words = s.words }) ≡ Some (at_loop subs g s.statics s.words a b 32768 sign 0 0 0)
  begun m a b sign h =
      ap (λ (f : Frame). run subs (7 + m) (record { frame = f; statics = s.statics; words = s.words })) entered
      ∙ run_then subs 7 m _ _ _ (opening subs g error s.statics s.words x y (let e : nat_eq y 0 ≡ false = grind (arith, nat_tests) in e)) h

  positive : (m a b : ℕ) → m ≤ 20 → a < 65536 → 0 < b → b ≤ 32768 → quotient x y ≡ a / b
      → run subs m (at_text subs g s.statics s.words before_x x y 32768 0 0 0 0) ≡ Some (at_loop subs g s.statics s.words a b 32768 0 0 0 0) → Goal
  positive m a b few ha hb most q h =
      let f = found subs g s.statics s.words a b 0 ha hb most in
      let ran = run_then subs (7 + m) (f.steps + 8) _ _ _ (begun m a b 0 h) (run_then subs f.steps 8 _ _ _ f.ran (ends_positive subs g error s.statics s.words f.x' b (a / b) f.r')) in
      let back = comes_back subs s g (x ∷ y ∷ []) c (7 + m + (f.steps + 8)) (at_loop subs g s.statics s.words f.x' b 32768 0 (a / b) f.r' 16).frame s.statics s.words 22 (a / b) End ran in
      (suc (suc (7 + m + (f.steps + 8))), omega (arith, few, f.few), subst (λ w. ComesBack subs s (suc (suc (7 + m + (f.steps + 8)))) (given_back s c.caller c.below w)) (sym q) back)

  turned_sign : (m a b : ℕ) → m ≤ 20 → a < 65536 → 0 < b → b ≤ 32768 → quotient x y ≡ word_neg (a / b)
      → run subs m (at_text subs g s.statics s.words before_x x y 32768 0 0 0 0) ≡ Some (at_loop subs g s.statics s.words a b 32768 65535 0 0 0) → Goal
  turned_sign m a b few ha hb most q h =
      let f = found subs g s.statics s.words a b 65535 ha hb most in
      let ran = run_then subs (7 + m) (f.steps + 9) _ _ _ (begun m a b 65535 h) (run_then subs f.steps 9 _ _ _ f.ran (ends_negative subs g error s.statics s.words f.x' b (a / b) f.r')) in
      let back = comes_back subs s g (x ∷ y ∷ []) c (7 + m + (f.steps + 9)) (at_loop subs g s.statics s.words f.x' b 32768 65535 (a / b) f.r' 16).frame s.statics s.words 21 (word_neg (a / b)) (Next (Return 22 (Name (Local 2))) End) ran in
      (suc (suc (7 + m + (f.steps + 9))), omega (arith, few, f.few), subst (λ w. ComesBack subs s (suc (suc (7 + m + (f.steps + 9)))) (given_back s c.caller c.below w)) (sym q) back)

  pub whole : Goal
  whole =
      ⊎_elim
      (λ lx. ⊎_elim
      (λ ly. positive 8 x y (omega arith) hx some (omega (arith, ly)) (both_plain x y lx ly) (signs_plain subs g error s.statics s.words x y (not_negative x lx) (not_negative y ly)))
      (λ ly. turned_sign 14 x (word_neg y) (omega arith) hx (omega (arith, ly, hy)) (omega (arith, ly, hy)) (second_minus x y lx ly hy) (signs_second subs g error s.statics s.words x y (not_negative x lx) (negative y ly)))
      (cases_lt y 32768))
      (λ lx. ⊎_elim
      (λ ly. turned_sign 14 (word_neg x) y (omega arith) (omega arith) some (omega (arith, ly)) (first_minus x y lx hx ly) (signs_first subs g error s.statics s.words x y (negative x lx) (not_negative y ly)))
      (λ ly. positive 20 (word_neg x) (word_neg y) (omega arith) (omega arith) (omega (arith, ly, hy)) (omega (arith, ly, hy)) (both_minus x y lx hx ly hy) (signs_both subs g error s.statics s.words x y (negative x lx) (negative y ly)))
      (cases_lt y 32768))
      (cases_lt x 32768)

pub law : DivideLaw
law subs s g class error kernel d = whole subs s g d.x d.y class error d.word_x d.word_y d.some kernel d.call

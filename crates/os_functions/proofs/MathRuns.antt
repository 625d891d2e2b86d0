-- Functions of Math: each straight piece of their runs is a computation.
use Rattle.std.proofs.Common.{◌≡◌, ◌⊎◌, ⊎_elim, inl, inr, ℕ, zero, suc, ◌+◌, ◌-◌, ◌*◌, ◌<◌, ◌≤◌, Bool, true, false, nat_lt, List, [], ◌∷◌, Some, codes, refl, sym, ap, ◌∙◌, arith, mul-le-mul}
use Rattle.std.specs.Prelude.{int_lt, if◌then◌else◌}
use Rattle.std.proofs.lemmas.Bool.{cases_lt}
use Rattle.std.proofs.lemmas.Bool.Decides.{nat_tests}
use Rattle.word16.specs.Words.{signed_value, truth, word_lt, word_gt, word_neg, word_add, word_sub}
use Rattle.jack_core.specs.declared.program.Core.{Core}
use Rattle.jack_core.specs.Texts.{the_subroutines}
use Rattle.jack_meaning.specs.Text.{Text, End, Subroutine}
use Rattle.jack_meaning.specs.Meaning.{State}
use Rattle.os_laws.specs.Names.{IsShipped}
use Rattle.os_laws.proofs.Comparing.{negative, not_negative, less, not_less}
use Rattle.os_laws.proofs.Runs.{Call, run, run_then}
use Rattle.os_functions.specs.Calls.{routine_number, CallsNext, Gives}
use Rattle.os_functions.specs.MathLaws.{absolute, lesser, greater, IsRoot, AbsLaw, MinLaw, MaxLaw, SqrtLaw, SqrtErrorLaw, MathLaws, MathRows}
use Rattle.os_functions.proofs.Texts.{abs_body, min_body, max_body, root_body, root_loop}
use Rattle.os_functions.proofs.Pieces.{in_call, tail, returns_value, erring, gives_by, refuses_by}
use Rattle.os_functions.proofs.MathRoutines.{is_abs, is_min, is_max, is_sqrt}
use Rattle.os_functions.proofs.Named.{system_error, is_error}

module _ (subs : List Subroutine) (g : ℕ) (ss ws : List ℕ) where
  -- the call of a function
  abbrev at_text : Text → List ℕ → List ℕ → Call
  at_text t xs ls = in_call g 0 ss ws t xs ls

  abs_below : (x : ℕ) → word_lt x 0 ≡ 65535 → run subs 6 (at_text abs_body (x ∷ []) []) ≡ Some (at_text (returns_value 2 (word_neg x) (tail abs_body)) (x ∷ []) [])
  abs_below x h = rw h refl

  abs_above : (x : ℕ) → word_lt x 0 ≡ 0 → run subs 5 (at_text abs_body (x ∷ []) []) ≡ Some (at_text (returns_value 3 x End) (x ∷ []) [])
  abs_above x h = rw h refl

  min_first : (x y : ℕ) → word_lt x y ≡ 65535 → run subs 5 (at_text min_body (x ∷ y ∷ []) []) ≡ Some (at_text (returns_value 2 x (tail min_body)) (x ∷ y ∷ []) [])
  min_first x y h = rw h refl

  min_second : (x y : ℕ) → word_lt x y ≡ 0 → run subs 5 (at_text min_body (x ∷ y ∷ []) []) ≡ Some (at_text (returns_value 3 y End) (x ∷ y ∷ []) [])
  min_second x y h = rw h refl

  max_first : (x y : ℕ) → word_gt x y ≡ 65535 → run subs 5 (at_text max_body (x ∷ y ∷ []) []) ≡ Some (at_text (returns_value 2 x (tail max_body)) (x ∷ y ∷ []) [])
  max_first x y h = rw h refl

  max_second : (x y : ℕ) → word_gt x y ≡ 0 → run subs 5 (at_text max_body (x ∷ y ∷ []) []) ≡ Some (at_text (returns_value 3 y End) (x ∷ y ∷ []) [])
  max_second x y h = rw h refl

  -- ---- the root

  abbrev at_loop : ℕ → ℕ → ℕ → Call
  at_loop x y odd = at_text root_loop (x ∷ []) (y ∷ odd ∷ [])

  root_begins : (error x : ℕ) → word_lt x 0 ≡ 0 → run subs 6 (at_text (root_body error) (x ∷ []) (0 ∷ 0 ∷ [])) ≡ Some (at_loop x 0 1)
  root_begins error x h = rw h refl

  root_goes_on : (x y odd : ℕ) → word_lt x odd ≡ 0 → run subs 17 (at_loop x y odd) ≡ Some (at_loop (word_sub x odd) (word_add y 1) (word_add odd 2))
  root_goes_on x y odd h = rw h refl

  root_ends : (x y odd : ℕ) → word_lt x odd ≡ 65535 → run subs 6 (at_loop x y odd) ≡ Some (at_text (returns_value 8 y End) (x ∷ []) (y ∷ odd ∷ []))
  root_ends x y odd h = rw h refl

  root_refuses : (error x : ℕ) → word_lt x 0 ≡ 65535
      → run subs 5 (at_text (root_body error) (x ∷ []) (0 ∷ 0 ∷ [])) ≡ Some (at_text (erring error 4 (tail (root_body error))) (x ∷ []) (0 ∷ 0 ∷ []))
  root_refuses error x h = rw h refl

  -- y odd numbers have been taken off x: their sum is y * y
  abbrev before_turn : ℕ → ℕ → Call
  before_turn x y = at_loop (x - y * y) y (y + y + 1)

  squares : (y : ℕ) → (y + 1) * (y + 1) ≡ y * y + (y + y + 1)
  squares y = omega arith

  few : (x y : ℕ) → x < 32768 → y * y ≤ x → y < 182
  few x y h k = ⊎_elim (λ l. l) (λ (g : 182 ≤ y). absurd (let m : 182 * 182 ≤ y * y = mul-le-mul g g in omega (arith, m, h, k))) (cases_lt y 182)

  turn : (x y : ℕ) → x < 32768 → (y + 1) * (y + 1) ≤ x → run subs 17 (before_turn x y) ≡ Some (before_turn x (y + 1))
  turn x y h k =
      let sq = squares y in
      let f = few x y h (omega (arith, k, sq)) in
      let a : word_sub (x - y * y) (y + y + 1) ≡ x - (y + 1) * (y + 1) = omega (arith, sq, k, h, f) in
      let b : word_add y 1 ≡ y + 1 = omega (arith, f) in
      let o : word_add (y + y + 1) 2 ≡ (y + 1) + (y + 1) + 1 = omega (arith, f) in
      root_goes_on (x - y * y) y (y + y + 1) (not_less (x - y * y) (y + y + 1) (omega (arith, sq, k)) (omega (arith, h)))
      ∙ ap (λ (z : ℕ). Some (at_loop z (word_add y 1) (word_add (y + y + 1) 2))) a
      ∙ ap (λ (z : ℕ). Some (at_loop (x - (y + 1) * (y + 1)) z (word_add (y + y + 1) 2))) b
      ∙ ap (λ (z : ℕ). Some (at_loop (x - (y + 1) * (y + 1)) (y + 1) z)) o

  abbrev root_found : ℕ → ℕ → Call
  root_found x z = at_text (returns_value 8 z End) ((x - z * z) ∷ []) (z ∷ (z + z + 1) ∷ [])

  -- what is found from the turn y on
  abbrev Roots : ℕ → ℕ → Type 0
  Roots x y = (z : ℕ) × IsRoot x z × (y ≤ z) × (run subs (6 + 17 * (z - y)) (before_turn x y) ≡ Some (root_found x z))

  roots_by : (x y : ℕ) → x < 32768 → y * y ≤ x → ((y + 1) * (y + 1) ≤ x → Roots x (y + 1)) → (x < (y + 1) * (y + 1)) ⊎ ((y + 1) * (y + 1) ≤ x) → Roots x y
  roots_by x y h k more (inl l) =
      let sq = squares y in
      let f = few x y h k in
      let count : 6 + 17 * (y - y) ≡ 6 = omega arith in
      (y, (k, l), omega arith, ap (λ n. run subs n (before_turn x y)) count ∙ root_ends (x - y * y) y (y + y + 1) (less (x - y * y) (y + y + 1) (omega (arith, sq, l, k)) (omega (arith, f))))
  roots_by x y h k more (inr g) =
      let (z, is, least, ran) = more g in
      let count : 6 + 17 * (z - y) ≡ 17 + (6 + 17 * (z - (y + 1))) = omega (arith, least) in
      (z, is, omega (arith, least), ap (λ n. run subs n (before_turn x y)) count ∙ run_then subs 17 (6 + 17 * (z - (y + 1))) (before_turn x y) (before_turn x (y + 1)) (root_found x z) (turn x y h g) ran)

  roots : (fuel x y : ℕ) → x < 32768 → y * y ≤ x → y + fuel ≡ 182 → Roots x y
  roots zero x y h k left = absurd (omega (arith, few x y h k, left))
  roots (suc fuel) x y h k left = roots_by x y h k (λ g. roots fuel x (y + 1) h g (omega (arith, left))) (cases_lt x ((y + 1) * (y + 1)))

  root_runs : (error x : ℕ) → x < 32768 → (z : ℕ) × IsRoot x z × (run subs (12 + 17 * z) (at_text (root_body error) (x ∷ []) (0 ∷ 0 ∷ [])) ≡ Some (root_found x z))
  root_runs error x h =
      let (z, is, least, ran) = roots 182 x 0 h (omega arith) (omega arith) in
      let count : 12 + 17 * z ≡ 6 + (6 + 17 * (z - 0)) = omega arith in
      let first : x ≡ x - 0 * 0 = omega arith in
      let begins = root_begins error x (not_negative x h) ∙ ap (λ (k : ℕ). Some (at_loop k 0 1)) first in
      (z, is, ap (λ n. run subs n (at_text (root_body error) (x ∷ []) (0 ∷ 0 ∷ []))) count ∙ run_then subs 6 (6 + 17 * (z - 0)) (at_text (root_body error) (x ∷ []) (0 ∷ 0 ∷ [])) (before_turn x 0) (root_found x z) begins ran)

-- ---- the laws

module _ {core : Core} (p : IsShipped core) (s : State) where
  abbrev subs : List Subroutine
  subs = the_subroutines core

  abbrev math_number : List ℕ → ℕ
  math_number name = routine_number p (codes "Math") name

  abs_negative : (x : ℕ) → 32768 ≤ x → x < 65536 → word_neg x ≡ absolute x
  abs_negative x h k =
      let n : nat_lt x 32768 ≡ false = grind (arith, nat_tests) in
      let e : absolute x ≡ suc (65535 - x) = rw n refl in
      let m : word_neg x ≡ suc (65535 - x) = omega (arith, h, k) in
      m ∙ sym e

  abs_positive : (x : ℕ) → x < 32768 → x ≡ absolute x
  abs_positive x h = let n : nat_lt x 32768 ≡ true = grind (arith, nat_tests) in let e : absolute x ≡ x = rw n refl in sym e

  pub abs_law : AbsLaw p s
  abs_law x h c =
      let g = math_number (codes "abs") in
      ⊎_elim
      (λ l. gives_by p s (codes "Math") (codes "abs") (x ∷ []) c 5 8 (omega arith) _ (is_abs core p) 0 3 x (absolute x) (abs_positive x l) End (x ∷ []) [] (abs_above subs g s.statics s.words x (not_negative x l)))
      (λ l. gives_by p s (codes "Math") (codes "abs") (x ∷ []) c 6 8 (omega arith) _ (is_abs core p) 0 2 (word_neg x) (absolute x) (abs_negative x l h) (tail abs_body) (x ∷ []) [] (abs_below subs g s.statics s.words x (negative x l)))
      (cases_lt x 32768)

  -- what a test chooses, by the truth of it
  truth_true : (b : Bool) → b ≡ true → truth b ≡ 65535
  truth_true b h = ap truth h

  truth_false : (b : Bool) → b ≡ false → truth b ≡ 0
  truth_false b h = ap truth h

  chosen_true : (b : Bool) (x y : ℕ) → b ≡ true → x ≡ (if b then x else y)
  chosen_true b x y h = sym (ap (λ z. if z then x else y) h)

  chosen_false : (b : Bool) (x y : ℕ) → b ≡ false → y ≡ (if b then x else y)
  chosen_false b x y h = sym (ap (λ z. if z then x else y) h)

  min_by : (x y : ℕ) (c : CallsNext p (codes "Math") (codes "min") s (x ∷ y ∷ [])) (b : Bool) → int_lt (signed_value x) (signed_value y) ≡ b → Gives c 7 (lesser x y)
  min_by x y c true e =
      let g = math_number (codes "min") in
      gives_by p s (codes "Math") (codes "min") (x ∷ y ∷ []) c 5 7 (omega arith) _ (is_min core p) 0 2 x (lesser x y) (chosen_true _ x y e) (tail min_body) (x ∷ y ∷ []) [] (min_first subs g s.statics s.words x y (truth_true _ e))
  min_by x y c false e =
      let g = math_number (codes "min") in
      gives_by p s (codes "Math") (codes "min") (x ∷ y ∷ []) c 5 7 (omega arith) _ (is_min core p) 0 3 y (lesser x y) (chosen_false _ x y e) End (x ∷ y ∷ []) [] (min_second subs g s.statics s.words x y (truth_false _ e))

  pub min_law : MinLaw p s
  min_law x y c = min_by x y c (int_lt (signed_value x) (signed_value y)) refl

  max_by : (x y : ℕ) (c : CallsNext p (codes "Math") (codes "max") s (x ∷ y ∷ [])) (b : Bool) → int_lt (signed_value y) (signed_value x) ≡ b → Gives c 7 (greater x y)
  max_by x y c true e =
      let g = math_number (codes "max") in
      gives_by p s (codes "Math") (codes "max") (x ∷ y ∷ []) c 5 7 (omega arith) _ (is_max core p) 0 2 x (greater x y) (chosen_true _ x y e) (tail max_body) (x ∷ y ∷ []) [] (max_first subs g s.statics s.words x y (truth_true _ e))
  max_by x y c false e =
      let g = math_number (codes "max") in
      gives_by p s (codes "Math") (codes "max") (x ∷ y ∷ []) c 5 7 (omega arith) _ (is_max core p) 0 3 y (greater x y) (chosen_false _ x y e) End (x ∷ y ∷ []) [] (max_second subs g s.statics s.words x y (truth_false _ e))

  pub max_law : MaxLaw p s
  max_law x y c = max_by x y c (int_lt (signed_value y) (signed_value x)) refl

  pub sqrt_law : SqrtLaw p s
  sqrt_law x h c =
      let g = math_number (codes "sqrt") in
      let error = system_error p in
      let r = root_runs subs g s.statics s.words error x h in
      let z = r.0 in
      (z, r.1, gives_by p s (codes "Math") (codes "sqrt") (x ∷ []) c (12 + 17 * z) (14 + 17 * z) (omega arith) _ (is_sqrt core p) 0 8 z z refl End ((x - z * z) ∷ []) (z ∷ (z + z + 1) ∷ []) r.2)

  pub sqrt_error_law : SqrtErrorLaw p s
  sqrt_error_law x h k c =
      let g = math_number (codes "sqrt") in
      let error = system_error p in
      refuses_by p s (codes "Math") (codes "sqrt") (x ∷ []) c 5 7 (omega arith) _ (is_sqrt core p) error (is_error core p) 0 4 (tail (root_body error)) (x ∷ []) (0 ∷ 0 ∷ []) (root_refuses subs g s.statics s.words error x (negative x h))

pub law : MathLaws
law = record {
  abs = λ p s. abs_law p s;
  min = λ p s. min_law p s;
  max = λ p s. max_law p s;
  sqrt = λ p s. sqrt_law p s;
  sqrt_error = λ p s. sqrt_error_law p s;
}

pub rows : MathRows
rows = record { least = refl; minus_two = refl; two = refl; below_zero = refl; above_zero = refl; root = (omega arith, omega arith); square = (omega arith, omega arith) }

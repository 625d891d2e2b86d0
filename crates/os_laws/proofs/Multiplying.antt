-- Multiplication: each turn of its loop is a computation.
use Rattle.std.proofs.Common.{◌≡◌, ◌⊎◌, ⊎_elim, ℕ, zero, suc, ◌+◌, ◌*◌, ◌%◌, ◌^◌, ◌<◌, true, false, nat_eq, bit_and, List, [], ◌∷◌, Some, refl, sym, ap, ◌∙◌, subst, arith}
use Rattle.std.proofs.lemmas.Bool.Decides.{nat_tests}
use Rattle.std.proofs.lemmas.Nat.{mod-pow-add, pow_below, pow_pos}
use Rattle.std.proofs.lemmas.Nat.Bits.{and_pow, bit_at-lt}
use Rattle.word16.specs.Words.{word_add}
use Rattle.jack_meaning.specs.Text.{Value, Return, Text, End, Next, Subroutine}
use Rattle.jack_meaning.specs.Meaning.{Frame}
use Rattle.os_laws.specs.Calls.{ComesBack, given_back}
use Rattle.os_laws.specs.Kernel.{multiply_loop, multiply_body, multiply_meaning}
use Rattle.os_laws.specs.Numbers.{bit, bits_from, product}
use Rattle.os_laws.specs.Laws.{MultiplyLaw}
use Rattle.os_laws.proofs.Basics.{enters}
use Rattle.os_laws.proofs.Runs.{Call, run, run_then}
use Rattle.os_laws.proofs.Returns.{comes_back}

module _ (subs : List Subroutine) (g : ℕ) (ss ws : List ℕ) where
  abbrev pub at_text : Text → ℕ → ℕ → ℕ → ℕ → ℕ → ℕ → Call
  at_text t x y a b c i = record { frame = record { subroutine = g; arguments = x ∷ y ∷ []; locals = a ∷ b ∷ c ∷ i ∷ []; this = 0; text = t }; statics = ss; words = ws }

  abbrev pub at_loop : ℕ → ℕ → ℕ → ℕ → ℕ → ℕ → Call
  at_loop x y a b c i = at_text multiply_loop x y a b c i

  -- a turn, where the bit is not set and where it is
  pub turn_clear : (x y a b c i : ℕ) → nat_eq i 16 ≡ false → nat_eq (bit_and y c) 0 ≡ true → run subs 24 (at_loop x y a b c i) ≡ Some (at_loop x y a (word_add b b) (word_add c c) (word_add i 1))
  turn_clear x y a b c i h e = rw (h, e) refl

  pub turn_set : (x y a b c i : ℕ) → nat_eq i 16 ≡ false → nat_eq (bit_and y c) 0 ≡ false → run subs 28 (at_loop x y a b c i) ≡ Some (at_loop x y (word_add a b) (word_add b b) (word_add c c) (word_add i 1))
  turn_set x y a b c i h e = rw (h, e) refl

  -- the end of the loop, up to the `return` of the sum
  pub loop_end : (x y a b c : ℕ) → run subs 6 (at_loop x y a b c 16) ≡ Some (at_text (Next (Return 9 (Value a)) End) x y a b c 16)
  loop_end x y a b c = refl

-- ---- the numbers

two : (b : ℕ) → b < 2 → (b ≡ 0) ⊎ (b ≡ 1)
two b h = grind arith

power : (i : ℕ) → i < 16 → 2 ^ i < 65536
power i h = pow_below i 16 h

next_power : (i : ℕ) → 2 ^ suc i ≡ 2 ^ i + 2 ^ i
next_power i = omega arith

-- one more bit of a number
one_more : (y i : ℕ) → y % 2 ^ suc i ≡ bit y i * 2 ^ i + y % 2 ^ i
one_more y i = ap (λ k. y % 2 ^ k) (let e : suc i ≡ 1 + i = omega arith in e) ∙ mod-pow-add y 1 i

sums : (a b : ℕ) → (a % 65536 + b % 65536) % 65536 ≡ (a + b) % 65536
sums a b = omega arith

add_clear : (x r p : ℕ) → x * (0 * p + r) ≡ x * r
add_clear x r p = omega arith

add_set : (x r p : ℕ) → x * r + x * p ≡ x * (1 * p + r)
add_set x r p = omega arith

add_twice : (x p : ℕ) → x * p + x * p ≡ x * (p + p)
add_twice x p = omega arith

bit_clear : (y i : ℕ) → bit y i ≡ 0 → bit_and y (2 ^ i) ≡ 0
bit_clear y i h = and_pow y i ∙ ap (λ b. b * 2 ^ i) h ∙ (let e : 0 * 2 ^ i ≡ 0 = omega arith in e)

bit_set : (y i : ℕ) → bit y i ≡ 1 → bit_and y (2 ^ i) ≡ 2 ^ i
bit_set y i h = and_pow y i ∙ ap (λ b. b * 2 ^ i) h ∙ (let e : 1 * 2 ^ i ≡ 2 ^ i = omega arith in e)

eq_zero : (n : ℕ) → n ≡ 0 → nat_eq n 0 ≡ true
eq_zero n h = grind (arith, nat_tests)

not_zero : (n : ℕ) → 0 < n → nat_eq n 0 ≡ false
not_zero n h = grind (arith, nat_tests)

not_sixteen : (i : ℕ) → i < 16 → nat_eq i 16 ≡ false
not_sixteen i h = grind (arith, nat_tests)

module _ (subs : List Subroutine) (g : ℕ) (ss ws : List ℕ) (x y : ℕ) where
  -- before turn i
  abbrev pub before_turn : ℕ → Call
  before_turn i = at_loop subs g ss ws x y (x * (y % 2 ^ i) % 65536) (x * 2 ^ i % 65536) (2 ^ i % 65536) i

  small_power : (i : ℕ) → i < 16 → 2 ^ i % 65536 ≡ 2 ^ i
  small_power i h = let p = power i h in omega (arith, p)

  turn_with : (i : ℕ) → i < 16 → (a' : ℕ) → a' ≡ x * (y % 2 ^ suc i) % 65536 → at_loop subs g ss ws x y a' (word_add (x * 2 ^ i % 65536) (x * 2 ^ i % 65536)) (word_add (2 ^ i % 65536) (2 ^ i % 65536)) (word_add i 1) ≡ before_turn (suc i)
  turn_with i h a' e =
      let b : word_add (x * 2 ^ i % 65536) (x * 2 ^ i % 65536) ≡ x * 2 ^ suc i % 65536 = sums (x * 2 ^ i) (x * 2 ^ i) ∙ ap (λ n. n % 65536) (add_twice x (2 ^ i)) ∙ ap (λ p. x * p % 65536) (sym (next_power i)) in
      let c : word_add (2 ^ i % 65536) (2 ^ i % 65536) ≡ 2 ^ suc i % 65536 = sums (2 ^ i) (2 ^ i) ∙ ap (λ p. p % 65536) (sym (next_power i)) in
      let k : word_add i 1 ≡ suc i = omega (arith, h) in
      ap (λ z. at_loop subs g ss ws x y z (word_add (x * 2 ^ i % 65536) (x * 2 ^ i % 65536)) (word_add (2 ^ i % 65536) (2 ^ i % 65536)) (word_add i 1)) e
      ∙ ap (λ z. at_loop subs g ss ws x y (x * (y % 2 ^ suc i) % 65536) z (word_add (2 ^ i % 65536) (2 ^ i % 65536)) (word_add i 1)) b
      ∙ ap (λ z. at_loop subs g ss ws x y (x * (y % 2 ^ suc i) % 65536) (x * 2 ^ suc i % 65536) z (word_add i 1)) c
      ∙ ap (λ z. at_loop subs g ss ws x y (x * (y % 2 ^ suc i) % 65536) (x * 2 ^ suc i % 65536) (2 ^ suc i % 65536) z) k

  clear : (i : ℕ) → i < 16 → bit y i ≡ 0 → run subs (24 + 4 * bit y i) (before_turn i) ≡ Some (before_turn (suc i))
  clear i h e =
      let count : 24 + 4 * bit y i ≡ 24 = omega (arith, e) in
      let sum : x * (y % 2 ^ i) % 65536 ≡ x * (y % 2 ^ suc i) % 65536 = ap (λ n. n % 65536) (sym (add_clear x (y % 2 ^ i) (2 ^ i))) ∙ ap (λ b. x * (b * 2 ^ i + y % 2 ^ i) % 65536) (sym e) ∙ ap (λ n. x * n % 65536) (sym (one_more y i)) in
      ap (λ n. run subs n (before_turn i)) count
      ∙ turn_clear subs g ss ws x y _ _ _ i (not_sixteen i h) (eq_zero _ (ap (bit_and y) (small_power i h) ∙ bit_clear y i e))
      ∙ ap (λ (c : Call). Some c) (turn_with i h _ sum)

  set : (i : ℕ) → i < 16 → bit y i ≡ 1 → run subs (24 + 4 * bit y i) (before_turn i) ≡ Some (before_turn (suc i))
  set i h e =
      let count : 24 + 4 * bit y i ≡ 28 = omega (arith, e) in
      let sum : word_add (x * (y % 2 ^ i) % 65536) (x * 2 ^ i % 65536) ≡ x * (y % 2 ^ suc i) % 65536 =
      sums (x * (y % 2 ^ i)) (x * 2 ^ i) ∙ ap (λ n. n % 65536) (add_set x (y % 2 ^ i) (2 ^ i)) ∙ ap (λ b. x * (b * 2 ^ i + y % 2 ^ i) % 65536) (sym e) ∙ ap (λ n. x * n % 65536) (sym (one_more y i)) in
      let there : 0 < bit_and y (2 ^ i % 65536) = omega (arith, ap (bit_and y) (small_power i h), bit_set y i e, pow_pos i) in
      ap (λ n. run subs n (before_turn i)) count
      ∙ turn_set subs g ss ws x y _ _ _ i (not_sixteen i h) (not_zero _ there)
      ∙ ap (λ (c : Call). Some c) (turn_with i h _ sum)

  turn : (i : ℕ) → i < 16 → run subs (24 + 4 * bit y i) (before_turn i) ≡ Some (before_turn (suc i))
  turn i h = ⊎_elim (clear i h) (set i h) (two (bit y i) (bit_at-lt y i))

  -- the k turns from the i-th on
  turns : (k i : ℕ) → i + k ≡ 16 → run subs (24 * k + 4 * bits_from y i k) (before_turn i) ≡ Some (before_turn 16)
  turns zero i h = ap (λ (j : ℕ). Some (before_turn j)) (let e : i ≡ 16 = omega (arith, h) in e)
  turns (suc k) i h =
      let count : 24 * suc k + 4 * bits_from y i (suc k) ≡ (24 + 4 * bit y i) + (24 * k + 4 * bits_from y (suc i) k) = omega arith in
      ap (λ n. run subs n (before_turn i)) count
      ∙ run_then subs (24 + 4 * bit y i) (24 * k + 4 * bits_from y (suc i) k) (before_turn i) (before_turn (suc i)) (before_turn 16) (turn i (omega (arith, h))) (turns k (suc i) (omega (arith, h)))

-- ---- the whole call

module _ (subs : List Subroutine) (g : ℕ) (ss ws : List ℕ) (x y : ℕ) (hx : x < 65536) (hy : y < 65536) where
  opening : run subs 4 (at_text subs g ss ws multiply_body x y 0 0 0 0) ≡ Some (at_loop subs g ss ws x y 0 x 1 0)
  opening = refl

  first_turn : at_loop subs g ss ws x y 0 x 1 0 ≡ before_turn subs g ss ws x y 0
  first_turn =
      let none : y % 1 ≡ 0 = omega arith in
      let a : 0 ≡ x * (y % 1) % 65536 = (let zero_sum : 0 ≡ x * 0 % 65536 = omega arith in zero_sum) ∙ ap (λ z. x * z % 65536) (sym none) in
      let b : x ≡ x * 1 % 65536 = omega (arith, hx) in
      ap (λ z. at_loop subs g ss ws x y z x 1 0) a ∙ ap (λ z. at_loop subs g ss ws x y (x * (y % 1) % 65536) z 1 0) b

  last_sum : x * (y % 2 ^ 16) % 65536 ≡ product x y
  last_sum = let e : y % 65536 ≡ y = omega (arith, hy) in ap (λ z. x * z % 65536) e

  pub multiplied : run subs (394 + 4 * bits_from y 0 16) (at_text subs g ss ws multiply_body x y 0 0 0 0) ≡ Some (at_text subs g ss ws (Next (Return 9 (Value (product x y))) End) x y (product x y) (x * 2 ^ 16 % 65536) (2 ^ 16 % 65536) 16)
  multiplied =
      let turning = turns subs g ss ws x y 16 0 refl in
      let start = opening ∙ ap (λ (c : Call). Some c) first_turn in
      let end = loop_end subs g ss ws x y (x * (y % 2 ^ 16) % 65536) (x * 2 ^ 16 % 65536) (2 ^ 16 % 65536) ∙ ap (λ z. Some (at_text subs g ss ws (Next (Return 9 (Value z)) End) x y z (x * 2 ^ 16 % 65536) (2 ^ 16 % 65536) 16)) last_sum in
      let count : 394 + 4 * bits_from y 0 16 ≡ 4 + ((24 * 16 + 4 * bits_from y 0 16) + 6) = omega arith in
      ap (λ n. run subs n (at_text subs g ss ws multiply_body x y 0 0 0 0)) count
      ∙ run_then subs 4 _ _ _ _ start (run_then subs (24 * 16 + 4 * bits_from y 0 16) 6 _ _ _ turning end)

pub law : MultiplyLaw
law subs s g class kernel m =
    let x = m.x in
    let y = m.y in
    let c = m.call in
    let entered = enters subs g (multiply_meaning class) (x ∷ y ∷ []) kernel in
    let ran = ap (λ (f : Frame). run subs (394 + 4 * bits_from y 0 16) (record { frame = f; statics = s.statics; words = s.words })) entered ∙ multiplied subs g s.statics s.words x y m.word_x m.word_y in
    let back = comes_back subs s g (x ∷ y ∷ []) c (394 + 4 * bits_from y 0 16) (at_text subs g s.statics s.words End x y (product x y) (x * 2 ^ 16 % 65536) (2 ^ 16 % 65536) 16).frame s.statics s.words 9 (product x y) End ran in
    subst (λ n. ComesBack subs s n (given_back s c.caller c.below (product x y))) (let e : suc (suc (394 + 4 * bits_from y 0 16)) ≡ 396 + 4 * bits_from y 0 16 = omega arith in e) back

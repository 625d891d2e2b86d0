-- Numbers and their bits.
use Rattle.std.proofs.Common.{◌≡◌, ℕ, zero, suc, ◌+◌, ◌*◌, ◌^◌, ◌<◌, Bool, true, false, cond, eqb, refl, sym, ap, ap₂, ◌∙◌, arith, min, max, ◌-◌, below_more, lit<, add-zero, ◌≢◌, ne_eqb}
use Rattle.std.proofs.Math.Nat.{two-pow-succ}
use Rattle.std.proofs.lemmas.Nat.{and_le_l, or_of_16}
use Rattle.std.proofs.lemmas.Nat.Bits.{bit_at_cat_low, bit_at_cat_high, bit_at_and, bit_at_or, same_from_bits_below}
use Rattle.std.specs.Prelude.{not, ◌&&◌, ◌||◌, bit_and, bit_or}
use Rattle.std.specs.Int.{bit_at}
use Rattle.hdl_tree.specs.Memory.{number}
use Rattle.chip_basic.specs.Laws.{some_bit}

pub number_same : (n : ℕ) (f g : ℕ → Bool) → ((i : ℕ) → i < n → f i ≡ g i) → number n f ≡ number n g
number_same zero f g h = refl
number_same (suc n) f g h =
    let a : number n f ≡ number n g = number_same n f g (λ i lt. h i (omega arith)) in
    let b : f n ≡ g n = h n (omega arith) in
    cc

pub number_cond : (n : ℕ) (s : Bool) (f g : ℕ → Bool) → number n (λ i. cond s (f i) (g i)) ≡ cond s (number n f) (number n g)
number_cond n true f g = refl
number_cond n false f g = refl

pub number_below : (n : ℕ) (f : ℕ → Bool) → number n f < 2 ^ n
number_below zero f = omega arith
number_below (suc n) f = below (f n) (number n f) (2 ^ n) (2 ^ suc n) (two-pow-succ n) (number_below n f)
  where
    below : (b : Bool) (x p q : ℕ) → q ≡ p + p → x < p → x + cond b p 0 < q
    below true x p q e h = omega arith
    below false x p q e h = omega arith

-- ---- bit by bit

abbrev pub digit : Bool → ℕ
digit b = cond b 1 0

one_bit : (b : Bool) → bit_at (digit b) 0 ≡ digit b
one_bit true = refl
one_bit false = refl

as_cat : (b : Bool) (x p : ℕ) → x + cond b p 0 ≡ digit b * p + x
as_cat true x p = omega arith
as_cat false x p = omega arith

-- bit k of the number that bits spell
pub bit_of_number : (n : ℕ) (f : ℕ → Bool) (k : ℕ) → k < n → bit_at (number n f) k ≡ digit (f k)
bit_of_number zero f k h = absurd (omega arith)
bit_of_number (suc n) f k h =
    let cat = as_cat (f n) (number n f) (2 ^ n) in
    let low : (j : ℕ) → j < n → bit_at (number (suc n) f) j ≡ digit (f j) =
    λ j lt. ap (λ x. bit_at x j) cat ∙ bit_at_cat_low (digit (f n)) n (number n f) j lt ∙ bit_of_number n f j lt in
    let at_n : n - n ≡ 0 = omega arith in
    let high : bit_at (number (suc n) f) n ≡ digit (f n) =
    ap (λ x. bit_at x n) cat ∙ bit_at_cat_high (digit (f n)) n (number n f) n (number_below n f) (omega arith) ∙ ap (bit_at (digit (f n))) at_n ∙ one_bit (f n) in
    below_more (λ j. bit_at (number (suc n) f) j ≡ digit (f j)) n low high k (omega arith)

not_step : (b : Bool) (x y p q : ℕ) → q ≡ p + p → x + y + 1 ≡ p → (x + cond (not b) p 0) + (y + cond b p 0) + 1 ≡ q
not_step true x y p q e h = omega arith
not_step false x y p q e h = omega arith

-- a number and the number of its inverted bits
pub number_not : (n : ℕ) (f : ℕ → Bool) → number n (λ k. not (f k)) + number n f + 1 ≡ 2 ^ n
number_not zero f = refl
number_not (suc n) f = not_step (f n) (number n (λ k. not (f k))) (number n f) (2 ^ n) (2 ^ suc n) (two-pow-succ n) (number_not n f)

digit_and : (a b : Bool) → digit (a && b) ≡ min (digit a) (digit b)
digit_and true true = refl
digit_and true false = refl
digit_and false true = refl
digit_and false false = refl

digit_or : (a b : Bool) → digit (a || b) ≡ max (digit a) (digit b)
digit_or true true = refl
digit_or true false = refl
digit_or false true = refl
digit_or false false = refl

-- the bits of `&` and of `|`
pub number_and : (n : ℕ) (f g : ℕ → Bool) → number n (λ k. f k && g k) ≡ bit_and (number n f) (number n g)
number_and n f g = same_from_bits_below n _ _ (number_below n (λ k. f k && g k)) (omega (arith, and_le_l (number n f) (number n g), number_below n f))
    (λ k lt. bit_of_number n (λ k. f k && g k) k lt ∙ digit_and (f k) (g k) ∙ ap₂ min (sym (bit_of_number n f k lt)) (sym (bit_of_number n g k lt)) ∙ sym (bit_at_and (number n f) (number n g) k))

pub number_or : (f g : ℕ → Bool) → number 16 (λ k. f k || g k) ≡ bit_or (number 16 f) (number 16 g)
number_or f g = same_from_bits_below 16 _ _ (number_below 16 (λ k. f k || g k)) (or_of_16 (number 16 f) (number 16 g) (number_below 16 f) (number_below 16 g))
    (λ k lt. bit_of_number 16 (λ k. f k || g k) k lt ∙ digit_or (f k) (g k) ∙ ap₂ max (sym (bit_of_number 16 f k lt)) (sym (bit_of_number 16 g k lt)) ∙ sym (bit_at_or (number 16 f) (number 16 g) k))

-- ---- numbers that are 0

or_step : (b : Bool) (x p : ℕ) → 0 < p → (not (eqb x 0) || b) ≡ not (eqb (x + cond b p 0) 0)
or_step true x p h =
    let ne : x + p ≢ 0 = omega arith in
    or_true (not (eqb x 0)) ∙ sym (ap not (ne_eqb (x + p) 0 ne))
  where
    or_true : (b : Bool) → (b || true) ≡ true
    or_true true = refl
    or_true false = refl
or_step false x p h = or_false (not (eqb x 0)) ∙ ap (λ y. not (eqb y 0)) (sym (add-zero x))
  where
    or_false : (b : Bool) → (b || false) ≡ b
    or_false true = refl
    or_false false = refl

pos_pow : (k : ℕ) → 0 < 2 ^ k
pos_pow zero = lit< tt
pos_pow (suc k) = let e = two-pow-succ k in let h = pos_pow k in omega arith

-- some bit is 1 just where the number isn't 0
pub some_number : (n : ℕ) (f : ℕ → Bool) → some_bit n f ≡ not (eqb (number n f) 0)
some_number zero f = refl
some_number (suc n) f = ap (λ x. x || f n) (some_number n f) ∙ or_step (f n) (number n f) (2 ^ n) (pos_pow n)

-- A block made of smaller blocks, of which the upper part of the address chooses one.
use Rattle.std.proofs.Common.{◌≡◌, ℕ, zero, suc, ◌+◌, ◌*◌, ◌^◌, ◌<◌, Bool, true, false, cond, eqb, refl, sym, ap, ap₂, ◌∙◌, arith, ne_eqb, eq-eqb, eqb-true, add-zero, pow-add}
use Rattle.std.proofs.lemmas.Bool.{eqb-false}
use Rattle.std.specs.Prelude.{◌&&◌, codes}
use Rattle.hdl_tree.specs.Memory.{number, word_held}
use Rattle.hdl_tree.specs.Behaviour.{Histories, BlockWorks}
use Rattle.chip_basic.specs.Laws.{word}
use Rattle.chip_basic.proofs.Numbers.{number_below}

-- ---- places in blocks

-- a place in blocks of size words each is a block and a place in it
abbrev pub IsSplit : ℕ → Type 0
IsSplit size = (x y i j : ℕ) → x < size → y < size → x + size * i ≡ y + size * j → (x ≡ y) × (i ≡ j)

pub split1 : IsSplit 1
split1 x y i j a b e = (omega arith, omega arith)

pub split8 : IsSplit 8
split8 x y i j a b e = (omega arith, omega arith)

pub split64 : IsSplit 64
split64 x y i j a b e = (omega arith, omega arith)

pub split512 : IsSplit 512
split512 x y i j a b e = (omega arith, omega arith)

pub split4096 : IsSplit 4096
split4096 x y i j a b e = (omega arith, omega arith)

one_test : (size x y i j : ℕ) → IsSplit size → x < size → y < size → (eqb i j && eqb x y) ≡ eqb (x + size * i) (y + size * j)
one_test size x y i j split a b = by (eqb i j) (eqb x y) refl refl
  where
    by : (p q : Bool) → eqb i j ≡ p → eqb x y ≡ q → (p && q) ≡ eqb (x + size * i) (y + size * j)
    by true true e f = sym (eq-eqb _ _ (ap₂ (λ u v. u + size * v) (eqb-true x y f) (eqb-true i j e)))
    by true false e f = sym (ne_eqb _ _ (λ g. eqb-false x y f (split x y i j a b g).0))
    by false q e f = sym (ne_eqb _ _ (λ g. eqb-false i j e (split x y i j a b g).1))

tests : (l : Bool) (size x y i j : ℕ) → IsSplit size → x < size → y < size → ((l && eqb i j) && eqb x y) ≡ (l && eqb (x + size * i) (y + size * j))
tests true size x y i j split a b = one_test size x y i j split a b
tests false size x y i j split a b = refl

-- block i, which is loaded where the upper part of the address is i, holds the words from size * i on
held_part : (size : ℕ) (load : ℕ → Bool) (low high word start : ℕ → ℕ) (i a : ℕ) → IsSplit size → ((c : ℕ) → low c < size) → a < size → (c : ℕ) →
    word_held (λ d. load d && eqb (high d) i) low word (λ b. start (b + size * i)) c a ≡ word_held load (λ d. low d + size * high d) word start c (a + size * i)
held_part size load low high word start i a split small b zero = refl
held_part size load low high word start i a split small b (suc c) =
    ap₂ (λ t h. cond t (word c) h) (tests (load c) size (low c) a (high c) i split (small c) b) (held_part size load low high word start i a split small b c)

pub held_same : (l l' : ℕ → Bool) (a a' v v' : ℕ → ℕ) (s : ℕ → ℕ) (c : ℕ) → ((d : ℕ) → d < c → (l d ≡ l' d) × (a d ≡ a' d) × (v d ≡ v' d)) → (x : ℕ) → word_held l a v s c x ≡ word_held l' a' v' s c x
held_same l l' a a' v v' s zero h x = refl
held_same l l' a a' v v' s (suc c) h x =
    let t = h c (omega arith) in
    let r = held_same l l' a a' v v' s c (λ d lt. h d (omega arith)) x in
    by (l c) (l' c) (a c) (a' c) (v c) (v' c) _ _ t.0 t.1 t.2 r
  where
    by : (l l' : Bool) (a a' v v' r r' : ℕ) → l ≡ l' → a ≡ a' → v ≡ v' → r ≡ r' → cond (l && eqb a x) v r ≡ cond (l' && eqb a' x) v' r'
    by l l' a a' v v' r r' e1 e2 e3 e4 = cc

-- ---- numbers by their lower and upper bits

split_step : (b : Bool) (x y p q r t : ℕ) → q ≡ r * p → t ≡ x + r * y → t + cond b q 0 ≡ x + r * (y + cond b p 0)
split_step true x y p q r t e h = h' (mul_more r y p)
  where
    mul_more : (r y p : ℕ) → r * (y + p) ≡ r * y + r * p
    mul_more r y p = omega arith

    h' : r * (y + p) ≡ r * y + r * p → t + q ≡ x + r * (y + p)
    h' m = omega arith
split_step false x y p q r t e h = rw (add-zero, add-zero) h

-- a number by its lowest m bits and the rest
pub number_split : (m n : ℕ) (f : ℕ → Bool) (k : ℕ) → k ≡ m + n → number k f ≡ number m f + 2 ^ m * number n (λ i. f (m + i))
number_split m zero f k e = ap (λ x. number x f) (e ∙ add-zero m) ∙ omega arith
number_split m (suc n) f zero e = absurd (omega arith)
number_split m (suc n) f (suc k) e =
    let e' : k ≡ m + n = omega arith in
    let p : 2 ^ k ≡ 2 ^ m * 2 ^ n = ap (λ x. 2 ^ x) e' ∙ pow-add 2 m n in
    ap (λ x. number k f + cond x (2 ^ k) 0) (ap f e') ∙ split_step (f (m + n)) (number m f) (number n (λ i. f (m + i))) (2 ^ n) (2 ^ k) (2 ^ m) (number k f) p (number_split m n f k e')

-- ---- blocks

-- the parts of an address: the lowest bits, and the upper ones
abbrev pub low_part : ℕ → Histories → ℕ → ℕ
low_part bits w d = number bits (λ k. w (codes "address") k d)

abbrev pub high_part : ℕ → ℕ → Histories → ℕ → ℕ
high_part bits upper w d = number upper (λ k. w (codes "address") (bits + k) d)

-- in a cycle a smaller memory has the pins of the large one: in and the lower part of the address, and load where the upper part is its number
pub record IsFed (bits upper : ℕ) (large : Histories) (i : ℕ) (small : Histories) (d : ℕ) : Type 0 where
  pub load : small (codes "load") 0 d ≡ (large (codes "load") 0 d && eqb (high_part bits upper large d) i)
  pub word_in : word small "in" d ≡ word large "in" d
  pub address : low_part bits small d ≡ low_part bits large d

module _ (bits upper ways n : ℕ) (split : IsSplit (2 ^ bits)) (w : Histories) (small : ℕ → Histories)
    (fed : (i : ℕ) → i < ways → (d : ℕ) → d < n → IsFed bits upper w i (small i) d)
    (works : (i : ℕ) → i < ways → (c : ℕ) → c < n → BlockWorks c bits (small i))
    (is_way : (c : ℕ) → high_part bits upper w c < ways)
    (given : (c : ℕ) → c < n → word w "out" c ≡ word (small (high_part bits upper w c)) "out" c) where
  low : ℕ → ℕ
  low = low_part bits w

  high : ℕ → ℕ
  high = high_part bits upper w

  load : ℕ → Bool
  load d = w (codes "load") 0 d

  -- a smaller block gives the word of the large one
  small_word : (i : ℕ) → i < ways → (c : ℕ) → c < n → word (small i) "out" c ≡ word_held load (λ d. low d + 2 ^ bits * high d) (λ d. word w "in" d) (λ a. 0) c (low c + 2 ^ bits * i)
  unfolding low high load
  small_word i lt c le =
      works i lt c le
      ∙ held_same _ (λ d. load d && eqb (high d) i) _ low _ (λ d. word w "in" d) (λ a. 0) c (λ d lt'. let f = fed i lt d (omega arith) in (f.load, f.address, f.word_in)) _
      ∙ ap (word_held (λ d. load d && eqb (high d) i) low (λ d. word w "in" d) (λ a. 0) c) (fed i lt c le).address
      ∙ held_part (2 ^ bits) load low high (λ d. word w "in" d) (λ a. 0) i (low c) split (λ d. number_below bits (λ k. w (codes "address") k d)) (number_below bits (λ k. w (codes "address") k c)) c

  pub block_works : (c : ℕ) → c < n → BlockWorks c (bits + upper) w
  unfolding low high load
  block_works c le =
      let a : (d : ℕ) → low d + 2 ^ bits * high d ≡ number (bits + upper) (λ k. w (codes "address") k d) = λ d. sym (number_split bits upper (λ k. w (codes "address") k d) (bits + upper) refl) in
      given c le ∙ small_word (high c) (is_way c) c le
      ∙ held_same load load (λ d. low d + 2 ^ bits * high d) (λ d. number (bits + upper) (λ k. w (codes "address") k d)) _ _ (λ x. 0) c (λ d lt. (refl, a d, refl)) _
      ∙ ap (word_held load (λ d. number (bits + upper) (λ k. w (codes "address") k d)) (λ d. word w "in" d) (λ x. 0) c) (a c)

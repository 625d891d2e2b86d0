-- Numbers and their bits.
use Rattle.std.proofs.Common.{◌≡◌, ℕ, zero, suc, ◌+◌, ◌*◌, ◌<◌, ◌/◌, ◌%◌, ◌^◌, Bool, true, false, cond, nat_eq, length, map, refl, sym, ap, ap₂, ◌∙◌, arith}
use Rattle.std.specs.Prelude.{◌&&◌, slice_index}
use Rattle.std.specs.List.{range_with_len}
use Rattle.std.proofs.Math.Nat.{two-pow-succ}
use Rattle.std.proofs.lemmas.Nat.{mod-pow-add}
use Rattle.std.proofs.lemmas.Bool.Decides.{nat_tests}
use Rattle.word16.specs.Words.{has_bit}
use Rattle.hdl_tree.specs.Memory.{number, word_held}

pub number_same : (n : ℕ) (f g : ℕ → Bool) → ((i : ℕ) → i < n → f i ≡ g i) → number n f ≡ number n g
number_same zero f g h = refl
number_same (suc n) f g h =
    let a : number n f ≡ number n g = number_same n f g (λ i lt. h i (omega arith)) in
    let b : f n ≡ g n = h n (omega arith) in
    cc

pub number_below : (n : ℕ) (f : ℕ → Bool) → number n f < 2 ^ n
number_below zero f = omega arith
number_below (suc n) f = below (f n) (number n f) (2 ^ n) (2 ^ suc n) (two-pow-succ n) (number_below n f)
  where
    below : (b : Bool) (x p q : ℕ) → q ≡ p + p → x < p → x + cond b p 0 < q
    below true x p q e h = omega arith
    below false x p q e h = omega arith

worth : (x : ℕ) → cond (nat_eq (x % 2) 1) 1 0 ≡ x % 2
worth x = grind (arith, nat_tests)

weighted : (b : Bool) (p : ℕ) → cond b p 0 ≡ cond b 1 0 * p
weighted true p = omega arith
weighted false p = omega arith

-- the bits of a word spell its lowest part
number_low : (n x : ℕ) → number n (has_bit x) ≡ x % 2 ^ n
number_low zero x = omega arith
number_low (suc n) x =
    let low = number_low n x in
    let bit : cond (has_bit x n) (2 ^ n) 0 ≡ (x / 2 ^ n % 2) * 2 ^ n = weighted (has_bit x n) (2 ^ n) ∙ ap (λ (d : ℕ). d * 2 ^ n) (worth (x / 2 ^ n)) in
    let split : x % 2 ^ (1 + n) ≡ (x / 2 ^ n % 2 ^ 1) * 2 ^ n + x % 2 ^ n = mod-pow-add x 1 n in
    let named : 1 + n ≡ suc n = omega arith in
    ap₂ (λ (a b : ℕ). a + b) low bit ∙ swap (x % 2 ^ n) ((x / 2 ^ n % 2) * 2 ^ n) ∙ sym split ∙ ap (λ (k : ℕ). x % 2 ^ k) named
  where
    swap : (a b : ℕ) → a + b ≡ b + a
    swap a b = omega arith

pub number_word : (x : ℕ) → x < 65536 → number 16 (has_bit x) ≡ x
number_word x h = number_low 16 x ∙ omega arith

-- what is held is a word, where words come in and stand at the start
written_word : (b : Bool) (x old : ℕ) → x < 65536 → old < 65536 → cond b x old < 65536
written_word true x old h k = h
written_word false x old h k = k

pub held_word : (load : ℕ → Bool) (address word start : ℕ → ℕ) → ((d : ℕ) → word d < 65536) → ((a : ℕ) → start a < 65536) → (c a : ℕ) → word_held load address word start c a < 65536
held_word load address word start h k zero a = k a
held_word load address word start h k (suc c) a = written_word (load c && nat_eq (address c) a) (word c) (word_held load address word start c a) (h c) (held_word load address word start h k c a)

-- the nodes of bits
pub at_row : (f : ℕ → ℕ) (n from k : ℕ) → k < n → slice_index (map f (range_with_len from n)) k ≡ f (from + k)
at_row f zero from k h = absurd (omega arith)
at_row f (suc n) from zero h = let e : from ≡ from + 0 = omega arith in ap f e
at_row f (suc n) from (suc k) h = let e : (from + 1) + k ≡ from + suc k = omega arith in at_row f n (from + 1) k (omega arith) ∙ ap f e

pub row_length : (f : ℕ → ℕ) (n from : ℕ) → length (map f (range_with_len from n)) ≡ n
row_length f zero from = refl
row_length f (suc n) from = ap suc (row_length f n (from + 1))

-- One bit of a word is set or cleared; what masks say.
use Rattle.std.proofs.Common.{◌≡◌, ◌≢◌, ◌⊎◌, inl, inr, ⊎_elim, ℕ, zero, suc, ◌+◌, ◌-◌, ◌*◌, ◌%◌, ◌^◌, ◌<◌, ◌≤◌, min, max, bit_and, bit_or, List, length, refl, sym, ap, ◌∙◌, arith}
use Rattle.std.specs.Prelude.{slice_set}
use Rattle.std.proofs.lemmas.Bool.{cases_lt}
use Rattle.std.proofs.lemmas.List.{length-set}
use Rattle.std.proofs.lemmas.Nat.{and_comm, and_le_l, and_mask, and-not, le_or_l, le_or_r, or_of_16, pow_below, pow_pos, pow_apart}
use Rattle.std.proofs.lemmas.Nat.Bits.{and_pow, bit_at-lt, bit_at-pow_same, bit_at-pow_other, bit_at_above, bit_at_and, bit_at_or}
use Rattle.word16.specs.Words.{word_not}
use Rattle.os_laws.specs.Heap.{word_at}
use Rattle.os_laws.specs.Numbers.{bit}
use Rattle.os_laws.proofs.Storing.{other_word}
use Rattle.os_functions.specs.ScreenLaws.{pixel_address, IsPainted}
use Rattle.os_functions.proofs.StringFacts.{this_word}

-- ---- a bit that is set

pub set_here : (w k : ℕ) → bit (bit_or w (2 ^ k)) k ≡ 1
set_here w k = bit_at_or w (2 ^ k) k ∙ ap (max (bit w k)) (bit_at-pow_same k) ∙ (let e : max (bit w k) 1 ≡ 1 = omega (arith, bit_at-lt w k) in e)

pub set_beside : (w k i : ℕ) → i ≢ k → bit (bit_or w (2 ^ k)) i ≡ bit w i
set_beside w k i d = bit_at_or w (2 ^ k) i ∙ ap (max (bit w i)) (bit_at-pow_other k i d) ∙ (let e : max (bit w i) 0 ≡ bit w i = omega arith in e)

-- ---- a bit that is cleared

same_and : (k : ℕ) → bit_and (2 ^ k) (2 ^ k) ≡ 2 ^ k
same_and k = and_pow (2 ^ k) k ∙ ap (λ b. b * 2 ^ k) (bit_at-pow_same k) ∙ (let e : 1 * 2 ^ k ≡ 2 ^ k = omega arith in e)

pub is_zero : (b q : ℕ) → 0 < q → b < 2 → b * q ≡ 0 → b ≡ 0
is_zero zero q h l e = refl
is_zero (suc zero) q h l e = absurd (let f : 1 * q ≡ q = omega arith in omega (arith, e, f, h))
is_zero (suc (suc b)) q h l e = absurd (omega (arith, l))

pub is_one : (b q : ℕ) → 0 < q → b < 2 → b * q ≡ q → b ≡ 1
is_one zero q h l e = absurd (let f : 0 * q ≡ 0 = omega arith in omega (arith, e, f, h))
is_one (suc zero) q h l e = refl
is_one (suc (suc b)) q h l e = absurd (omega (arith, l))

module _ (k : ℕ) (low : k < 16) where
  abbrev mask : ℕ
  mask = word_not (2 ^ k)

  both : (i : ℕ) → i < 16 → bit_and mask (2 ^ i) + bit_and (2 ^ k) (2 ^ i) ≡ 2 ^ i
  both i h = and-not 16 (2 ^ k) (2 ^ i) (pow_below k 16 low) (pow_below i 16 h)

  mask_here : bit mask k ≡ 0
  mask_here =
      let none : bit_and mask (2 ^ k) ≡ 0 = omega (arith, both k low, same_and k) in
      is_zero (bit mask k) (2 ^ k) (pow_pos k) (bit_at-lt mask k) (sym (and_pow mask k) ∙ none)

  mask_beside : (i : ℕ) → i < 16 → i ≢ k → bit mask i ≡ 1
  mask_beside i h d =
      let all : bit_and mask (2 ^ i) ≡ 2 ^ i = omega (arith, both i h, pow_apart k i (λ e. d (sym e))) in
      is_one (bit mask i) (2 ^ i) (pow_pos i) (bit_at-lt mask i) (sym (and_pow mask i) ∙ all)

  clear_here : (w : ℕ) → bit (bit_and w mask) k ≡ 0
  clear_here w = bit_at_and w mask k ∙ ap (min (bit w k)) mask_here ∙ (let e : min (bit w k) 0 ≡ 0 = omega arith in e)

  clear_beside : (w i : ℕ) → w < 65536 → i ≢ k → bit (bit_and w mask) i ≡ bit w i
  clear_beside w i word d =
      bit_at_and w mask i
      ∙ ⊎_elim
      (λ (h : i < 16). ap (min (bit w i)) (mask_beside i h d) ∙ (let e : min (bit w i) 1 ≡ bit w i = omega (arith, bit_at-lt w i) in e))
      (λ (h : 16 ≤ i). let z : bit w i ≡ 0 = bit_at_above w 16 i word h in ap (λ b. min b (bit mask i)) z ∙ (let e : min 0 (bit mask i) ≡ 0 = omega arith in e) ∙ sym z)
      (cases_lt i 16)

-- ---- the word of a pixel with another bit

module _ (ws : List ℕ) (x y : ℕ) (hx : x < 512) (hy : y < 256) (long : length ws ≡ 22528) (word : word_at ws (pixel_address x y) < 65536) where
  abbrev at_pixel : ℕ
  at_pixel = pixel_address x y

  pub low_address : 2048 ≤ at_pixel
  low_address = omega arith

  pub high_address : at_pixel < 24576
  high_address = omega (arith, hx, hy)

  painted_by : (w colour : ℕ) → w < 65536 → bit w (x % 16) ≡ colour → ((k : ℕ) → k ≢ x % 16 → bit w k ≡ bit (word_at ws at_pixel) k) → IsPainted ws x y colour (slice_set ws (at_pixel - 2048) w)
  painted_by w colour small here beside =
      let there = this_word ws at_pixel w long low_address high_address in
      record {
        same_length = length-set ws (at_pixel - 2048) w;
        others = λ a low d. other_word ws at_pixel a w low_address low d;
        here = ap (λ z. bit z (x % 16)) there ∙ here;
        beside = λ k d. ap (λ z. bit z k) there ∙ beside k d;
        word = omega (arith, there, small);
      }

  pub painted_black : IsPainted ws x y 1 (slice_set ws (at_pixel - 2048) (bit_or (word_at ws at_pixel) (2 ^ (x % 16))))
  painted_black = painted_by (bit_or (word_at ws at_pixel) (2 ^ (x % 16))) 1 (or_of_16 (word_at ws at_pixel) (2 ^ (x % 16)) word (pow_below (x % 16) 16 (omega arith))) (set_here (word_at ws at_pixel) (x % 16)) (λ k d. set_beside (word_at ws at_pixel) (x % 16) k d)

  pub painted_white : IsPainted ws x y 0 (slice_set ws (at_pixel - 2048) (bit_and (word_at ws at_pixel) (word_not (2 ^ (x % 16)))))
  painted_white =
      painted_by (bit_and (word_at ws at_pixel) (word_not (2 ^ (x % 16)))) 0 (let l = and_le_l (word_at ws at_pixel) (word_not (2 ^ (x % 16))) in omega (arith, l, word)) (clear_here (x % 16) (omega arith) (word_at ws at_pixel))
      (λ k d. clear_beside (x % 16) (omega arith) (word_at ws at_pixel) k word d)

-- ---- masks of the bits from the n-th on

masked : (n x m : ℕ) → m ≡ 65535 - (2 ^ n - 1) → 2 ^ n - 1 < 65536 → x < 65536 → bit_and x m + x % 2 ^ n ≡ x
masked n x m e few hx =
    ap (λ z. bit_and x z + x % 2 ^ n) e ∙ ap (λ z. z + x % 2 ^ n) (and_comm x (65535 - (2 ^ n - 1))) ∙ ap (λ z. bit_and (65535 - (2 ^ n - 1)) x + z) (sym (and_mask x n) ∙ and_comm x (2 ^ n - 1)) ∙ and-not 16 (2 ^ n - 1) x few hx

pub in_columns : (x : ℕ) → x < 512 → bit_and x 65024 ≡ 0
in_columns x h = omega (arith, masked 9 x 65024 refl (omega arith) (omega (arith, h)), h)

pub in_rows : (y : ℕ) → y < 256 → bit_and y 65280 ≡ 0
in_rows y h = omega (arith, masked 8 y 65280 refl (omega arith) (omega (arith, h)), h)

pub in_cells : (x : ℕ) → x < 64 → bit_and x 65472 ≡ 0
in_cells x h = omega (arith, masked 6 x 65472 refl (omega arith) (omega (arith, h)), h)

pub and_rows : (x : ℕ) → x < 65536 → bit_and x 65504 + x % 32 ≡ x
and_rows x h = masked 5 x 65504 refl (omega arith) h

pub off_columns : (x : ℕ) → 512 ≤ x → x < 65536 → 0 < bit_and x 65024
off_columns x h w = omega (arith, masked 9 x 65024 refl (omega arith) w, h)

pub off_rows : (y : ℕ) → 256 ≤ y → y < 65536 → 0 < bit_and y 65280
off_rows y h w = omega (arith, masked 8 y 65280 refl (omega arith) w, h)

pub off_cells : (x : ℕ) → 64 ≤ x → x < 65536 → 0 < bit_and x 65472
off_cells x h w = omega (arith, masked 6 x 65472 refl (omega arith) w, h)

-- a number that is not 0
pub one_more : (n : ℕ) → 0 < n → (m : ℕ) × (n ≡ suc m)
one_more zero h = absurd (omega (arith, h))
one_more (suc m) h = (m, refl)

pub off_screen : (x y : ℕ) → x < 65536 → y < 65536 → (512 ≤ x) ⊎ (256 ≤ y) → (m : ℕ) × (bit_or (bit_and x 65024) (bit_and y 65280) ≡ suc m)
off_screen x y wx wy (inl h) = one_more _ (omega (arith, off_columns x h wx, le_or_l (bit_and x 65024) (bit_and y 65280)))
off_screen x y wx wy (inr h) = one_more _ (omega (arith, off_rows y h wy, le_or_r (bit_and x 65024) (bit_and y 65280)))

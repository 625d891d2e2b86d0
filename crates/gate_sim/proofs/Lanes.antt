-- Bits of words, sixteen side by side.
use Rattle.std.proofs.Common.{◌≡◌, ◌≢◌, ℕ, zero, suc, ◌+◌, ◌-◌, ◌*◌, ◌/◌, ◌%◌, ◌^◌, ◌<◌, ◌≤◌, Bool, true, false, min, max, refl, ap, sym, ◌∙◌, arith, inl, inr, lt-ltb, eq-eqb, ne_eqb, nat_eq}
use Rattle.std.specs.Prelude.{not, ◌&&◌, ◌||◌, bit_and, bit_or, bit_xor, nat_lt, if◌then◌else◌}
use Rattle.std.specs.Int.{bit_at, w16}
use Rattle.std.proofs.lemmas.Nat.{shr-shr, and_mask, pow_pos, one_shl}
use Rattle.std.proofs.lemmas.Nat.Bits.{bit_at_and, bit_at_or, bit_at_xor, bit_at-lt, bit_at_ones, bit_at-zero, bit_at_set_same, bit_at_set_other, bit_at_cat_low, bit_at_cat_high, bit_at-pow_same, bit_at-pow_other, and_pow}
use Rattle.std.proofs.lemmas.Bool.{cases_eq, cond-true, cond-false, false≢true}
use Rattle.word16.specs.Words.{has_bit}
use Rattle.netlist.specs.Touched.{is_other}
use Rattle.gate_sim.specs.Inner.Plans.{lane_mask}

both : (x y : ℕ) → x < 2 → y < 2 → nat_eq (min x y) 1 ≡ (nat_eq x 1 && nat_eq y 1)
both zero zero h i = refl
both zero (suc zero) h i = refl
both (suc zero) zero h i = refl
both (suc zero) (suc zero) h i = refl
both (suc (suc x)) y h i = absurd (omega arith)
both zero (suc (suc y)) h i = absurd (omega arith)
both (suc zero) (suc (suc y)) h i = absurd (omega arith)

either : (x y : ℕ) → x < 2 → y < 2 → nat_eq (max x y) 1 ≡ (nat_eq x 1 || nat_eq y 1)
either zero zero h i = refl
either zero (suc zero) h i = refl
either (suc zero) zero h i = refl
either (suc zero) (suc zero) h i = refl
either (suc (suc x)) y h i = absurd (omega arith)
either zero (suc (suc y)) h i = absurd (omega arith)
either (suc zero) (suc (suc y)) h i = absurd (omega arith)

one_of : (x y : ℕ) → x < 2 → y < 2 → nat_eq ((x + y) % 2) 1 ≡ is_other (nat_eq x 1) (nat_eq y 1)
one_of zero zero h i = refl
one_of zero (suc zero) h i = refl
one_of (suc zero) zero h i = refl
one_of (suc zero) (suc zero) h i = refl
one_of (suc (suc x)) y h i = absurd (omega arith)
one_of zero (suc (suc y)) h i = absurd (omega arith)
one_of (suc zero) (suc (suc y)) h i = absurd (omega arith)

pub has_and : (a b l : ℕ) → has_bit (bit_and a b) l ≡ (has_bit a l && has_bit b l)
has_and a b l = ap (λ x. nat_eq x 1) (bit_at_and a b l) ∙ both (bit_at a l) (bit_at b l) (bit_at-lt a l) (bit_at-lt b l)

pub has_or : (a b l : ℕ) → has_bit (bit_or a b) l ≡ (has_bit a l || has_bit b l)
has_or a b l = ap (λ x. nat_eq x 1) (bit_at_or a b l) ∙ either (bit_at a l) (bit_at b l) (bit_at-lt a l) (bit_at-lt b l)

pub has_xor : (a b l : ℕ) → has_bit (bit_xor a b) l ≡ is_other (has_bit a l) (has_bit b l)
has_xor a b l = ap (λ x. nat_eq x 1) (bit_at_xor a b l) ∙ one_of (bit_at a l) (bit_at b l) (bit_at-lt a l) (bit_at-lt b l)

pub has_all : (l : ℕ) → l < 16 → has_bit 65535 l ≡ true
has_all l less = ap (λ x. nat_eq x 1) (bit_at_ones 16 l less)

pub has_none : (l : ℕ) → has_bit 0 l ≡ false
has_none l = ap (λ x. nat_eq x 1) (bit_at-zero l)

-- the bits of the masked choice `below ^ ((below ^ above) & mask)`
pub has_choice : (below above mask l : ℕ) → has_bit (bit_xor below (bit_and (bit_xor below above) mask)) l ≡ (if has_bit mask l then has_bit above l else has_bit below l)
has_choice below above mask l =
    has_xor below (bit_and (bit_xor below above) mask) l
    ∙ ap (is_other (has_bit below l)) (has_and (bit_xor below above) mask l ∙ ap (λ x. x && has_bit mask l) (has_xor below above l))
    ∙ choose (has_bit below l) (has_bit above l) (has_bit mask l)
  where
    choose : (x y m : Bool) → is_other x (is_other x y && m) ≡ (if m then y else x)
    choose true true true = refl
    choose true true false = refl
    choose true false true = refl
    choose true false false = refl
    choose false true true = refl
    choose false true false = refl
    choose false false true = refl
    choose false false false = refl

-- the bits of `(a & b) ^ 65535`
pub has_nand : (a b l : ℕ) → l < 16 → has_bit (bit_xor (bit_and a b) 65535) l ≡ not (has_bit a l && has_bit b l)
has_nand a b l less = has_xor (bit_and a b) 65535 l ∙ ap (is_other (has_bit (bit_and a b) l)) (has_all l less) ∙ turned (has_bit (bit_and a b) l) ∙ ap not (has_and a b l)
  where
    turned : (x : Bool) → is_other x true ≡ not x
    turned true = refl
    turned false = refl

-- ---- values and, above them, changes

pub low : (c v l : ℕ) → l < 16 → has_bit (c * 65536 + v) l ≡ has_bit v l
low c v l less = ap (λ x. nat_eq x 1) (bit_at_cat_low c 16 v l less)

pub high : (c v l : ℕ) → v < 65536 → has_bit (c * 65536 + v) (l + 16) ≡ has_bit c l
high c v l fits =
    let from : 16 ≤ l + 16 = omega arith in
    let e : l + 16 - 16 ≡ l = omega arith in
    ap (λ x. nat_eq x 1) (bit_at_cat_high c 16 v (l + 16) fits from ∙ ap (bit_at c) e)

low_half : (w l : ℕ) → l < 16 → has_bit (bit_and w 65535) l ≡ has_bit w l
low_half w l less = has_and w 65535 l ∙ ap (λ x. has_bit w l && x) (has_all l less) ∙ on (has_bit w l)
  where
    on : (x : Bool) → (x && true) ≡ x
    on true = refl
    on false = refl

high_half : (w l : ℕ) → has_bit (w / 2 ^ 16) l ≡ has_bit w (l + 16)
high_half w l =
    let e : 16 + l ≡ l + 16 = omega arith in
    ap (λ x. nat_eq x 1) (ap (λ n. n % 2) (shr-shr w 16 l) ∙ ap (bit_at w) e)

-- the bits of `a << up >> down`, where the lowest thirty-two are kept between
has_moved : (a up down l : ℕ) → up ≤ l + down → l + down < 32 → has_bit (a * 2 ^ up % 2 ^ 32 / 2 ^ down) l ≡ has_bit a (l + down - up)
has_moved a up down l le less = ap (λ x. nat_eq x 1) (lower ∙ kept ∙ higher)
  where
    lower : bit_at (a * 2 ^ up % 2 ^ 32 / 2 ^ down) l ≡ bit_at (a * 2 ^ up % 2 ^ 32) (l + down)
    lower = let e : down + l ≡ l + down = omega arith in ap (λ n. n % 2) (shr-shr (a * 2 ^ up % 2 ^ 32) down l ∙ ap (λ k. a * 2 ^ up % 2 ^ 32 / 2 ^ k) e)

    kept : bit_at (a * 2 ^ up % 2 ^ 32) (l + down) ≡ bit_at (a * 2 ^ up) (l + down)
    kept =
        let ones = bit_at_ones 32 (l + down) less in
        let below = bit_at-lt (a * 2 ^ up) (l + down) in
        ap (λ n. bit_at n (l + down)) (sym (and_mask (a * 2 ^ up) 32)) ∙ bit_at_and (a * 2 ^ up) (2 ^ 32 - 1) (l + down) ∙ omega arith

    higher : bit_at (a * 2 ^ up) (l + down) ≡ bit_at a (l + down - up)
    higher = let none : a * 2 ^ up ≡ a * 2 ^ up + 0 = omega arith in ap (λ n. bit_at n (l + down)) none ∙ bit_at_cat_high a up 0 (l + down) (pow_pos up) le

-- the word of `moved_slot`, of what is below, what is moved and the mask
module _ (bc bv ac av mask up down : ℕ) (fits_b : bv < 65536) (fits_a : av < 65536) (fits : mask < 65536) where
  abbrev under : ℕ
  under = bc * 65536 + bv

  abbrev over : ℕ
  over = (ac * 65536 + av) * 2 ^ up % 2 ^ 32 / 2 ^ down

  abbrev lanes : ℕ
  lanes = mask * 65536 + mask

  abbrev word : ℕ
  word = bit_xor under (bit_and (bit_xor under over) lanes)

  pub moved_value : (l : ℕ) → l < 16 → has_bit mask l ≡ true → up ≤ l + down → l + down < 16 → has_bit (bit_and word 65535) l ≡ has_bit av (l + down - up)
  moved_value l less on le small =
      let wide : l + down < 32 = omega arith in
      let inside : l + down - up < 16 = omega arith in
      low_half word l less ∙ has_choice under over lanes l ∙ cond-true (has_bit lanes l) _ _ (low mask mask l less ∙ on)
      ∙ has_moved (ac * 65536 + av) up down l le wide ∙ low ac av (l + down - up) inside

  pub moved_change : (l : ℕ) → l < 16 → has_bit mask l ≡ true → up ≤ l + down → l + down < 16 → has_bit (word / 2 ^ 16) l ≡ has_bit ac (l + down - up)
  moved_change l less on le small =
      let from : up ≤ l + 16 + down = omega arith in
      let wide : l + 16 + down < 32 = omega arith in
      let e : l + 16 + down - up ≡ l + down - up + 16 = omega arith in
      high_half word l ∙ has_choice under over lanes (l + 16) ∙ cond-true (has_bit lanes (l + 16)) _ _ (high mask mask l fits ∙ on)
      ∙ has_moved (ac * 65536 + av) up down (l + 16) from wide ∙ ap (has_bit (ac * 65536 + av)) e ∙ high ac av (l + down - up) fits_a

  pub kept_value : (l : ℕ) → l < 16 → has_bit mask l ≡ false → has_bit (bit_and word 65535) l ≡ has_bit bv l
  kept_value l less off =
      low_half word l less ∙ has_choice under over lanes l ∙ cond-false (has_bit lanes l) _ _ (low mask mask l less ∙ off) ∙ low bc bv l less

  pub kept_change : (l : ℕ) → l < 16 → has_bit mask l ≡ false → has_bit (word / 2 ^ 16) l ≡ has_bit bc l
  kept_change l less off =
      high_half word l ∙ has_choice under over lanes (l + 16) ∙ cond-false (has_bit lanes (l + 16)) _ _ (high mask mask l fits ∙ off) ∙ high bc bv l fits_b

-- one bit more: `w | 1 << l`
pub has_set : (w l : ℕ) → l < 16 → has_bit (bit_or w (1 * 2 ^ l % 65536)) l ≡ true
has_set w l less = ap (λ x. nat_eq x 1) (bit_at_set_same w16 w l less)

pub has_kept : (w l m : ℕ) → l < 16 → m ≢ l → has_bit (bit_or w (1 * 2 ^ l % 65536)) m ≡ has_bit w m
has_kept w l m less ne = ap (λ x. nat_eq x 1) (bit_at_set_other w16 w l less m ne)

-- a truth value in all lanes
pub has_truth : (b : Bool) (l : ℕ) → l < 16 → has_bit (if b then 65535 else 0) l ≡ b
has_truth true l less = has_all l less
has_truth false l less = has_none l

-- ---- one bit

-- the test `w & mask != 0`
mask_is : (at : ℕ) → at < 16 → lane_mask at ≡ 2 ^ at
mask_is at less = let t : nat_lt at 16 ≡ true = lt-ltb at 16 less in (rw t refl) ∙ one_shl at 16 less

pub has_masked : (w at mask : ℕ) → at < 16 → mask ≡ lane_mask at → not (nat_eq (bit_and w mask) 0) ≡ has_bit w at
has_masked w at mask less e =
    let is : bit_and w mask ≡ bit_at w at * 2 ^ at = ap (bit_and w) (e ∙ mask_is at less) ∙ and_pow w at in
    let small = bit_at-lt w at in
    elim (cases_eq (bit_at w at) 1) [
      | inl one ↦
          let big : 0 < bit_and w mask = rw (is, one) (omega (arith, pow_pos at)) in
          ap not (ne_eqb (bit_and w mask) 0 (omega arith)) ∙ sym (eq-eqb (bit_at w at) 1 one)
      | inr other ↦
          let none : bit_at w at ≡ 0 = omega arith in
          let zero : bit_and w mask ≡ 0 = rw (is, none) (omega arith) in
          ap not (eq-eqb (bit_and w mask) 0 zero) ∙ sym (ne_eqb (bit_at w at) 1 other)
    ]

pub mask_here : (bit : ℕ) → bit < 16 → has_bit (1 * 2 ^ bit % 2 ^ 16) bit ≡ true
mask_here bit less = ap (λ w. has_bit w bit) (one_shl bit 16 less) ∙ ap (λ x. nat_eq x 1) (bit_at-pow_same bit)

pub mask_other : (bit l : ℕ) → bit < 16 → l ≢ bit → has_bit (1 * 2 ^ bit % 2 ^ 16) l ≡ false
mask_other bit l less ne = ap (λ w. has_bit w l) (one_shl bit 16 less) ∙ ap (λ x. nat_eq x 1) (bit_at-pow_other bit l ne)

-- one bit less: `w & (1 << l ^ 65535)`
has_cleared : (w l m : ℕ) → m < 16 → has_bit (bit_and w (bit_xor (1 * 2 ^ l % 2 ^ 16) 65535)) m ≡ (has_bit w m && not (has_bit (1 * 2 ^ l % 2 ^ 16) m))
has_cleared w l m less = has_and w (bit_xor (1 * 2 ^ l % 2 ^ 16) 65535) m ∙ ap (λ x. has_bit w m && x) (has_xor (1 * 2 ^ l % 2 ^ 16) 65535 m ∙ ap (is_other (has_bit (1 * 2 ^ l % 2 ^ 16) m)) (has_all m less) ∙ turned (has_bit (1 * 2 ^ l % 2 ^ 16) m))
  where
    turned : (x : Bool) → is_other x true ≡ not x
    turned true = refl
    turned false = refl

pub cleared_here : (w l : ℕ) → l < 16 → has_bit (bit_and w (bit_xor (1 * 2 ^ l % 2 ^ 16) 65535)) l ≡ false
cleared_here w l less = has_cleared w l l less ∙ ap (λ x. has_bit w l && not x) (mask_here l less) ∙ off (has_bit w l)
  where
    off : (x : Bool) → (x && false) ≡ false
    off true = refl
    off false = refl

pub cleared_other : (w l m : ℕ) → l < 16 → m < 16 → m ≢ l → has_bit (bit_and w (bit_xor (1 * 2 ^ l % 2 ^ 16) 65535)) m ≡ has_bit w m
cleared_other w l m less small ne = has_cleared w l m small ∙ ap (λ x. has_bit w m && not x) (mask_other l m less ne) ∙ on (has_bit w m)
  where
    on : (x : Bool) → (x && true) ≡ x
    on true = refl
    on false = refl

-- ---- choices

pub masked : (x m w : Bool) → w ≡ false → (x && m) ≡ (m && (w || x))
masked x m true e = absurd (false≢true (sym e))
masked true true false e = refl
masked true false false e = refl
masked false true false e = refl
masked false false false e = refl

pub when_off : (t x y : Bool) → t ≡ false → y ≡ (if t then x else y)
when_off true x y e = absurd (false≢true (sym e))
when_off false x y e = refl

pub choose_same : (t t' x x' y : Bool) → t ≡ t' → x ≡ x' → (if t then x else y) ≡ (if t' then x' else y)
choose_same t t' x x' y et ex = rw (et, ex) refl

pub lone_on : (w ra ca rb cb pa va pb vb y : Bool) → ra ≡ ca → rb ≡ cb → pa ≡ va → pb ≡ vb → (w || (ra || rb)) ≡ true → not (pa && pb) ≡ (if w || (ca || cb) then not (va && vb) else y)
lone_on w ra ca rb cb pa va pb vb y ea eb ex ey on =
    let same : (w || (ra || rb)) ≡ (w || (ca || cb)) = rw (ea, eb) refl in
    let nand : not (pa && pb) ≡ not (va && vb) = rw (ex, ey) refl in
    nand ∙ taken (w || (ca || cb)) (sym same ∙ on)
  where
    taken : (t : Bool) → t ≡ true → not (va && vb) ≡ (if t then not (va && vb) else y)
    taken true e = refl
    taken false e = absurd (false≢true e)

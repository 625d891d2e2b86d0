-- The pixels of a rectangle while it is painted, word by word.
use Rattle.std.proofs.Common.{◌≡◌, ◌≢◌, ◌⊎◌, inl, inr, ⊎_elim, ℕ, zero, suc, ◌+◌, ◌-◌, ◌*◌, ◌/◌, ◌%◌, ◌^◌, ◌<◌, ◌≤◌, min, max, bit_and, bit_or, List, length, refl, sym, ap, ◌∙◌, arith}
use Rattle.std.specs.Prelude.{slice_set}
use Rattle.std.proofs.lemmas.Bool.{cases_lt}
use Rattle.std.proofs.lemmas.List.{length-set}
use Rattle.std.proofs.lemmas.Nat.{and_comm, and_mask, and-not, and_le_l, or_of_16, pow_below, pow_pos, mod-mul-add}
use Rattle.std.proofs.lemmas.Nat.Bits.{and_pow, bit_at-lt, bit_at_above, bit_at_and, bit_at_or}
use Rattle.word16.specs.Words.{word_not}
use Rattle.os_laws.specs.Heap.{word_at}
use Rattle.os_laws.specs.Numbers.{bit}
use Rattle.os_laws.proofs.Storing.{other_word}
use Rattle.os_functions.specs.PrintLaws.{pixel}
use Rattle.os_functions.specs.RectangleLaws.{InRectangle, IsColoured}
use Rattle.os_functions.specs.ScreenLaws.{pixel_address}
use Rattle.os_functions.proofs.PixelFacts.{is_zero, is_one}
use Rattle.os_functions.proofs.StringFacts.{same_or_not, this_word}

-- ---- a word that is painted, by the static `black`: it gets the bits of a mask, or loses them

abbrev pub brush : ℕ → ℕ → ℕ → ℕ
brush zero w b = bit_and w (word_not b)
brush (suc m) w b = bit_or w b

abbrev pub ink : ℕ → ℕ
ink zero = 0
ink (suc m) = 1

module _ (b i : ℕ) (small : b < 65536) (low : i < 16) where
  both : bit_and (word_not b) (2 ^ i) + bit_and b (2 ^ i) ≡ 2 ^ i
  both = and-not 16 b (2 ^ i) small (pow_below i 16 low)

  pub not_of_one : bit b i ≡ 1 → bit (word_not b) i ≡ 0
  not_of_one e =
      let all : bit_and b (2 ^ i) ≡ 2 ^ i = and_pow b i ∙ ap (λ z. z * 2 ^ i) e ∙ (let f : 1 * 2 ^ i ≡ 2 ^ i = omega arith in f) in
      let none : bit_and (word_not b) (2 ^ i) ≡ 0 = omega (arith, both, all) in
      is_zero (bit (word_not b) i) (2 ^ i) (pow_pos i) (bit_at-lt (word_not b) i) (sym (and_pow (word_not b) i) ∙ none)

  pub not_of_zero : bit b i ≡ 0 → bit (word_not b) i ≡ 1
  not_of_zero e =
      let none : bit_and b (2 ^ i) ≡ 0 = and_pow b i ∙ ap (λ z. z * 2 ^ i) e ∙ (let f : 0 * 2 ^ i ≡ 0 = omega arith in f) in
      let all : bit_and (word_not b) (2 ^ i) ≡ 2 ^ i = omega (arith, both, none) in
      is_one (bit (word_not b) i) (2 ^ i) (pow_pos i) (bit_at-lt (word_not b) i) (sym (and_pow (word_not b) i) ∙ all)

  pub hit : (v w : ℕ) → bit b i ≡ 1 → bit (brush v w b) i ≡ ink v
  hit zero w e = bit_at_and w (word_not b) i ∙ ap (min (bit w i)) (not_of_one e) ∙ (let f : min (bit w i) 0 ≡ 0 = omega arith in f)
  hit (suc m) w e = bit_at_or w b i ∙ ap (max (bit w i)) e ∙ (let f : max (bit w i) 1 ≡ 1 = omega (arith, bit_at-lt w i) in f)

  pub miss : (v w : ℕ) → bit b i ≡ 0 → bit (brush v w b) i ≡ bit w i
  miss zero w e = bit_at_and w (word_not b) i ∙ ap (min (bit w i)) (not_of_zero e) ∙ (let f : min (bit w i) 1 ≡ bit w i = omega (arith, bit_at-lt w i) in f)
  miss (suc m) w e = bit_at_or w b i ∙ ap (max (bit w i)) e ∙ (let f : max (bit w i) 0 ≡ bit w i = omega arith in f)

pub brush_small : (v w b : ℕ) → b < 65536 → w < 65536 → brush v w b < 65536
brush_small zero w b hb hw = let l = and_le_l w (word_not b) in omega (arith, l, hw)
brush_small (suc m) w b hb hw = or_of_16 w b hw hb

-- ---- masks: the bits below the k-th

ones : (k i : ℕ) → i < k → bit (2 ^ k - 1) i ≡ 1
ones k i h =
    let small = pow_below i k h in
    let rest : 2 ^ i % 2 ^ k ≡ 2 ^ i = ap (λ z. z % 2 ^ k) (let f : 2 ^ i ≡ 0 * 2 ^ k + 2 ^ i = omega arith in f) ∙ mod-mul-add 0 (2 ^ k) (2 ^ i) small in
    is_one (bit (2 ^ k - 1) i) (2 ^ i) (pow_pos i) (bit_at-lt (2 ^ k - 1) i) (sym (and_pow (2 ^ k - 1) i) ∙ and_comm (2 ^ k - 1) (2 ^ i) ∙ and_mask (2 ^ i) k ∙ rest)

no_more : (k i : ℕ) → k ≤ i → bit (2 ^ k - 1) i ≡ 0
no_more k i h = bit_at_above (2 ^ k - 1) k i (let p = pow_pos k in omega (arith, p)) h

-- of the w-th word of a row the points from x1 on
pub record IsFrom (x1 w b : ℕ) : Type 0 where
  pub small : b < 65536
  pub sets : (i : ℕ) → i < 16 → x1 ≤ 16 * w + i → bit b i ≡ 1
  pub clears : (i : ℕ) → i < 16 → 16 * w + i < x1 → bit b i ≡ 0

-- and those from x1 to x2
pub record IsBetween (x1 x2 w b : ℕ) : Type 0 where
  pub small : b < 65536
  pub sets : (i : ℕ) → i < 16 → x1 ≤ 16 * w + i → 16 * w + i ≤ x2 → bit b i ≡ 1
  pub clears : (i : ℕ) → i < 16 → (16 * w + i < x1) ⊎ (x2 < 16 * w + i) → bit b i ≡ 0

pub left_mask : (x1 b : ℕ) → b ≡ word_not (2 ^ (x1 % 16) - 1) → IsFrom x1 (x1 / 16) b
left_mask x1 b e =
    let k = x1 % 16 in
    let low : k < 16 = omega arith in
    let power = pow_below k 16 low in
    let few : 2 ^ k - 1 < 65536 = omega (arith, power) in
    record {
      small = omega (arith, e);
      sets = λ i h l. ap (λ z. bit z i) e ∙ not_of_zero (2 ^ k - 1) i few h (no_more k i (omega (arith, l)));
      clears = λ i h l. ap (λ z. bit z i) e ∙ not_of_one (2 ^ k - 1) i few h (ones k i (omega (arith, l, h)));
    }

pub whole_mask : (x1 w : ℕ) → x1 / 16 < w → IsFrom x1 w 65535
whole_mask x1 w h = record { small = omega arith; sets = λ i l m. ones 16 i l; clears = λ i l m. absurd (omega (arith, h, l, m)) }

pub inner_mask : (x1 x2 w b : ℕ) → w < x2 / 16 → IsFrom x1 w b → IsBetween x1 x2 w b
inner_mask x1 x2 w b h m = record {
  small = m.small;
  sets = λ i l from to. m.sets i l from;
  clears = λ i l o. ⊎_elim (λ (f : 16 * w + i < x1). m.clears i l f) (λ (g : x2 < 16 * w + i). absurd (omega (arith, g, h, l))) o;
}

pub last_mask : (x1 x2 b r : ℕ) → r ≡ 2 ^ (x2 % 16 + 1) - 1 → IsFrom x1 (x2 / 16) b → IsBetween x1 x2 (x2 / 16) (bit_and b r)
last_mask x1 x2 b r e m =
    let k = x2 % 16 + 1 in record {
      small = let l = and_le_l b r in let s = m.small in omega (arith, l, s);
      sets = λ i l from to.
          bit_at_and b r i ∙ ap (λ z. min z (bit r i)) (m.sets i l from) ∙ ap (min 1) (ap (λ z. bit z i) e ∙ ones k i (omega (arith, to)));
      clears = λ i l o.
          ⊎_elim
          (λ (f : 16 * (x2 / 16) + i < x1). bit_at_and b r i ∙ ap (λ z. min z (bit r i)) (m.clears i l f) ∙ (let z : min 0 (bit r i) ≡ 0 = omega arith in z))
          (λ (g : x2 < 16 * (x2 / 16) + i). bit_at_and b r i ∙ ap (min (bit b i)) (ap (λ z. bit z i) e ∙ no_more k i (omega (arith, g))) ∙ (let z : min (bit b i) 0 ≡ 0 = omega arith in z))
          o;
    }

-- ---- the points that are painted up to the w-th word of row y

abbrev pub Done : ℕ → ℕ → ℕ → ℕ → ℕ → ℕ → ℕ → ℕ → Type 0
Done x1 y1 x2 y2 y w x' y' = InRectangle x1 y1 x2 y2 x' y' × ((y' < y) ⊎ ((y' ≡ y) × (x' / 16 < w)))

abbrev pub word_place : ℕ → ℕ → ℕ
word_place y w = 16384 + 32 * y + w

module _ (first : List ℕ) (x1 y1 x2 y2 v : ℕ) where
  pub none_done : IsColoured first (Done x1 y1 x2 y2 y1 (x1 / 16)) (ink v) first
  none_done = record {
    same_length = refl;
    inside = λ x' y' hx hy d.
        let inner = d.0 in
        absurd (⊎_elim (λ (l : y' < y1). omega (arith, l, inner)) (λ (e : (y' ≡ y1) × (x' / 16 < x1 / 16)). let f = e.1 in omega (arith, f, inner)) d.1);
    others = λ x' y' hx hy o. refl;
    each = λ a l h. h;
    heap = λ a l h. refl;
  }

  pub row_done : (ws : List ℕ) (y : ℕ) → IsColoured first (Done x1 y1 x2 y2 y (x2 / 16 + 1)) (ink v) ws → IsColoured first (Done x1 y1 x2 y2 (y + 1) (x1 / 16)) (ink v) ws
  row_done ws y was = record {
    same_length = was.same_length;
    inside = λ x' y' hx hy d.
        let inner = d.0 in
        was.inside x' y' hx hy (
          inner,
          ⊎_elim
              (λ (l : y' < y + 1). ⊎_elim (λ (m : y' < y). inl m) (λ (g : y ≤ y'). inr ((let e : y' ≡ y = omega (arith, g, l) in e), omega (arith, inner))) (cases_lt y' y))
              (λ (e : (y' ≡ y + 1) × (x' / 16 < x1 / 16)). let f = e.1 in absurd (omega (arith, f, inner))) d.1,
        );
    others = λ x' y' hx hy o.
        was.others x' y' hx hy
        (λ d. o (d.0, ⊎_elim (λ (l : y' < y). inl (omega (arith, l))) (λ (e : (y' ≡ y) × (x' / 16 < x2 / 16 + 1)). let f = e.0 in inl (omega (arith, f))) d.1));
    each = was.each;
    heap = was.heap;
  }

  pub all_done : (ws : List ℕ) (w : ℕ) → IsColoured first (Done x1 y1 x2 y2 (y2 + 1) w) (ink v) ws → IsColoured first (InRectangle x1 y1 x2 y2) (ink v) ws
  all_done ws w was = record {
    same_length = was.same_length;
    inside = λ x' y' hx hy d. was.inside x' y' hx hy (d, inl (omega (arith, d)));
    others = λ x' y' hx hy o. was.others x' y' hx hy (λ d. o d.0);
    each = was.each;
    heap = was.heap;
  }

  module _ (ws : List ℕ) (y w b : ℕ) (long : length ws ≡ 22528) (low : y1 ≤ y) (high : y ≤ y2) (on : y2 < 256) (few : w < 32) (mask : IsBetween x1 x2 w b) (was : IsColoured first (Done x1 y1 x2 y2 y w) (ink v) ws) where
    abbrev a : ℕ
    a = word_place y w

    abbrev pub ws' : List ℕ
    ws' = slice_set ws (a - 2048) (brush v (word_at ws a) b)

    low_a : 2048 ≤ a
    low_a = omega arith

    high_a : a < 24576
    high_a = omega (arith, high, on, few)

    here : word_at ws' a ≡ brush v (word_at ws a) b
    here = this_word ws a (brush v (word_at ws a) b) long low_a high_a

    elsewhere : (c : ℕ) → 2048 ≤ c → c ≢ a → word_at ws' c ≡ word_at ws c
    elsewhere c l d = other_word ws a c (brush v (word_at ws a) b) low_a l d

    -- the pixel of another word, and one of this word by its bit
    other_pixel : (x' y' : ℕ) → x' < 512 → (y' ≢ y) ⊎ (x' / 16 ≢ w) → pixel ws' x' y' ≡ pixel ws x' y'
    other_pixel x' y' hx (inl d) = ap (λ z. bit z (x' % 16)) (elsewhere (pixel_address x' y') (omega arith) (λ e. d (let f : y' ≡ y = omega (arith, e, hx, few) in f)))
    other_pixel x' y' hx (inr d) = ap (λ z. bit z (x' % 16)) (elsewhere (pixel_address x' y') (omega arith) (λ e. d (let f : x' / 16 ≡ w = omega (arith, e, hx, few) in f)))

    same_place : (x' y' : ℕ) → y' ≡ y → x' / 16 ≡ w → pixel_address x' y' ≡ a
    same_place x' y' e f = omega (arith, e, f)

    hit_pixel : (x' y' : ℕ) → y' ≡ y → x' / 16 ≡ w → bit b (x' % 16) ≡ 1 → pixel ws' x' y' ≡ ink v
    hit_pixel x' y' e f one = ap (λ c. bit (word_at ws' c) (x' % 16)) (same_place x' y' e f) ∙ ap (λ z. bit z (x' % 16)) here ∙ hit b (x' % 16) mask.small (omega arith) v (word_at ws a) one

    missed_pixel : (x' y' : ℕ) → y' ≡ y → x' / 16 ≡ w → bit b (x' % 16) ≡ 0 → pixel ws' x' y' ≡ pixel ws x' y'
    missed_pixel x' y' e f none =
        ap (λ c. bit (word_at ws' c) (x' % 16)) (same_place x' y' e f) ∙ ap (λ z. bit z (x' % 16)) here ∙ miss b (x' % 16) mask.small (omega arith) v (word_at ws a) none
        ∙ ap (λ c. bit (word_at ws c) (x' % 16)) (sym (same_place x' y' e f))

    wider : (x' y' : ℕ) → Done x1 y1 x2 y2 y w x' y' → Done x1 y1 x2 y2 y (w + 1) x' y'
    wider x' y' d = (d.0, ⊎_elim (λ (l : y' < y). inl l) (λ (e : (y' ≡ y) × (x' / 16 < w)). inr (e.0, (let l = e.1 in omega (arith, l)))) d.1)

    now_inside : (x' y' : ℕ) → x' < 512 → y' < 256 → Done x1 y1 x2 y2 y (w + 1) x' y' → pixel ws' x' y' ≡ ink v
    now_inside x' y' hx hy d =
        let inner = d.0 in
        ⊎_elim
        (λ (e : y' ≡ y).
        ⊎_elim
        (λ (f : x' / 16 ≡ w). hit_pixel x' y' e f (mask.sets (x' % 16) (omega arith) (omega (arith, f, inner)) (omega (arith, f, inner))))
        (λ (n : x' / 16 ≢ w).
        other_pixel x' y' hx (inr n)
        ∙ was.inside x' y' hx hy (
          inner,
          ⊎_elim (λ (l : y' < y). inl l)
              (λ (g : (y' ≡ y) × (x' / 16 < w + 1)).
              let l = g.1 in
              ⊎_elim (λ (m : x' / 16 < w). inr (e, m)) (λ (k : w ≤ x' / 16). absurd (n (let f : x' / 16 ≡ w = omega (arith, k, l) in f))) (cases_lt (x' / 16) w)) d.1,
        ))
        (same_or_not (x' / 16) w))
        (λ (n : y' ≢ y).
        other_pixel x' y' hx (inl n) ∙ was.inside x' y' hx hy (inner, ⊎_elim (λ (l : y' < y). inl l) (λ (g : (y' ≡ y) × (x' / 16 < w + 1)). absurd (n g.0)) d.1))
        (same_or_not y' y)

    now_others : (x' y' : ℕ) → x' < 512 → y' < 256 → (Done x1 y1 x2 y2 y (w + 1) x' y' → ⊥) → pixel ws' x' y' ≡ pixel first x' y'
    now_others x' y' hx hy o =
        let before : pixel ws x' y' ≡ pixel first x' y' = was.others x' y' hx hy (λ d. o (wider x' y' d)) in
        ⊎_elim
        (λ (e : y' ≡ y).
        ⊎_elim
        (λ (f : x' / 16 ≡ w).
        ⊎_elim
        (λ (l : x' < x1). missed_pixel x' y' e f (mask.clears (x' % 16) (omega arith) (inl (omega (arith, f, l)))) ∙ before)
        (λ (g : x1 ≤ x').
        ⊎_elim
        (λ (l : x2 < x'). missed_pixel x' y' e f (mask.clears (x' % 16) (omega arith) (inr (omega (arith, f, l)))) ∙ before)
        (λ (k : x' ≤ x2). absurd (o ((g, k, omega (arith, e, low), omega (arith, e, high)), inr (e, omega (arith, f)))))
        (cases_lt x2 x'))
        (cases_lt x' x1))
        (λ (n : x' / 16 ≢ w). other_pixel x' y' hx (inr n) ∙ before)
        (same_or_not (x' / 16) w))
        (λ (n : y' ≢ y). other_pixel x' y' hx (inl n) ∙ before)
        (same_or_not y' y)

    now_each : (c : ℕ) → 2048 ≤ c → word_at first c < 65536 → word_at ws' c < 65536
    now_each c l h =
        let old = was.each c l h in
        ⊎_elim
        (λ (e : c ≡ a).
        let at : word_at ws' c ≡ brush v (word_at ws a) b = ap (word_at ws') e ∙ here in
        let same : word_at ws c ≡ word_at ws a = ap (word_at ws) e in
        let small = brush_small v (word_at ws a) b mask.small (omega (arith, same, old)) in
        omega (arith, at, small))
        (λ (d : c ≢ a). let f = elsewhere c l d in omega (arith, f, old))
        (same_or_not c a)

    pub word_done : IsColoured first (Done x1 y1 x2 y2 y (w + 1)) (ink v) ws'
    word_done = record {
      same_length = length-set ws (a - 2048) (brush v (word_at ws a) b) ∙ was.same_length;
      inside = λ x' y' hx hy d. now_inside x' y' hx hy d;
      others = λ x' y' hx hy o. now_others x' y' hx hy o;
      each = λ c l h. now_each c l h;
      heap = λ c l h. elsewhere c l (λ e. omega (arith, e, h)) ∙ was.heap c l h;
    }

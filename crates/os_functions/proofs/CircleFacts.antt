-- The points of a circle while it is drawn, row by row.
use Rattle.std.proofs.Common.{◌≡◌, ◌⊎◌, inl, inr, ⊎_elim, ℕ, ◌+◌, ◌-◌, ◌*◌, ◌<◌, ◌≤◌, List, ap, ◌∙◌, arith}
use Rattle.std.proofs.lemmas.Bool.{cases_lt}
use Rattle.std.proofs.lemmas.Nat.{mul-le}
use Rattle.word16.specs.Words.{word_add, word_sub}
use Rattle.os_functions.specs.CircleLaws.{IsCircle, InCircle}
use Rattle.os_functions.specs.LineLaws.{distance}
use Rattle.os_functions.specs.RectangleLaws.{InRectangle, IsColoured}

-- ---- points painted after others

in_or_out : (a b c d x y : ℕ) → InRectangle a b c d x y ⊎ (InRectangle a b c d x y → ⊥)
in_or_out a b c d x y =
    ⊎_elim (λ (l : x < a). inr (λ i. omega (arith, l, i)))
    (λ (l : a ≤ x).
    ⊎_elim (λ (m : c < x). inr (λ i. omega (arith, m, i)))
    (λ (m : x ≤ c).
    ⊎_elim (λ (n : y < b). inr (λ i. omega (arith, n, i)))
    (λ (n : b ≤ y). ⊎_elim (λ (o : d < y). inr (λ i. omega (arith, o, i))) (λ (o : y ≤ d). inl (l, m, n, o)) (cases_lt d y))
    (cases_lt y b))
    (cases_lt c x))
    (cases_lt x a)

pub more_points : (first ws ws' : List ℕ) (colour a b c d : ℕ) (P Q : ℕ → ℕ → Type 0) → IsColoured first P colour ws → IsColoured ws (InRectangle a b c d) colour ws'
    → ((x y : ℕ) → Q x y → P x y ⊎ InRectangle a b c d x y) → ((x y : ℕ) → P x y → Q x y) → ((x y : ℕ) → x < 512 → y < 256 → InRectangle a b c d x y → Q x y) → IsColoured first Q colour ws'
more_points first ws ws' colour a b c d P Q was now split left right = record {
  same_length = now.same_length ∙ was.same_length;
  inside = λ x y hx hy q.
      ⊎_elim (λ (i : InRectangle a b c d x y). now.inside x y hx hy i)
      (λ (o : InRectangle a b c d x y → ⊥). now.others x y hx hy o ∙ was.inside x y hx hy (⊎_elim (λ (m : P x y). m) (λ (i : InRectangle a b c d x y). absurd (o i)) (split x y q)))
      (in_or_out a b c d x y);
  others = λ x y hx hy n. now.others x y hx hy (λ i. n (right x y hx hy i)) ∙ was.others x y hx hy (λ m. n (left x y m));
  each = λ a' l h. now.each a' l (was.each a' l h);
  heap = λ a' l h. now.heap a' l h ∙ was.heap a' l h;
}

-- ---- squares

pub square_up : (a b : ℕ) → a ≤ b → a * a ≤ b * b
square_up a b h = mul-le a a b b h h

-- half the width of the row so far from the centre
pub record IsHalf (r e w : ℕ) : Type 0 where
  pub fits : w * w + e * e ≤ r * r
  pub most : r * r < (w + 1) * (w + 1) + e * e

in_row : (r e w a : ℕ) → IsHalf r e w → a ≤ w → a * a + e * e ≤ r * r
in_row r e w a h l = let s = square_up a w l in omega (arith, s, h.fits)

out_of_row : (r e w a : ℕ) → IsHalf r e w → a * a + e * e ≤ r * r → a ≤ w
out_of_row r e w a h i = ⊎_elim (λ (l : w < a). let s = square_up (w + 1) a (omega (arith, l)) in absurd (omega (arith, s, i, h.most))) (λ (k : a ≤ w). k) (cases_lt w a)

-- ---- the word that has what is left of the radius's square

pub data Left (r e w d : ℕ) : Type 0 where
  is_some : w * w + e * e ≤ r * r → d ≡ r * r - (w * w + e * e) → Left r e w d
  is_short : r * r < w * w + e * e → d ≡ 65536 - (w * w + e * e - r * r) → Left r e w d

small_squares : (r e w : ℕ) → r ≤ 127 → e ≤ r → w ≤ r → (w * w ≤ 16129) × (e * e ≤ 16129) × (r * r ≤ 16129)
small_squares r e w hr he hw = (square_up w 127 (omega (arith, hw, hr)), square_up e 127 (omega (arith, he, hr)), square_up r 127 hr)

-- one row farther
pub raise_left : (r e w d : ℕ) → r ≤ 127 → e < r → w ≤ r → w * w + e * e ≤ r * r → d ≡ r * r - (w * w + e * e) → Left r (e + 1) w (word_add (word_sub (word_sub d (e + 1)) (e + 1)) 1)
raise_left r e w d hr he hw l k =
    let s = small_squares r (e + 1) w hr (omega (arith, he)) hw in
    let t = square_up e (e + 1) (omega arith) in
    ⊎_elim
    (λ (m : r * r < w * w + (e + 1) * (e + 1)). is_short m (let f : word_add (word_sub (word_sub d (e + 1)) (e + 1)) 1 ≡ 65536 - (w * w + (e + 1) * (e + 1) - r * r) = omega (arith, m, l, k, s, he, hr) in f))
    (λ (m : w * w + (e + 1) * (e + 1) ≤ r * r). is_some m (let f : word_add (word_sub (word_sub d (e + 1)) (e + 1)) 1 ≡ r * r - (w * w + (e + 1) * (e + 1)) = omega (arith, m, l, k, s, he, hr) in f))
    (cases_lt (r * r) (w * w + (e + 1) * (e + 1)))

-- one column less
pub narrow_left : (r e w d : ℕ) → r ≤ 127 → e ≤ r → w + 1 ≤ r → r * r < (w + 1) * (w + 1) + e * e → d ≡ 65536 - ((w + 1) * (w + 1) + e * e - r * r) → Left r e w (word_add (word_add (word_add d w) w) 1)
narrow_left r e w d hr he hw l k =
    let s = small_squares r e (w + 1) hr he hw in
    ⊎_elim
    (λ (m : r * r < w * w + e * e). is_short m (let f : word_add (word_add (word_add d w) w) 1 ≡ 65536 - (w * w + e * e - r * r) = omega (arith, m, l, k, s, hw, hr) in f))
    (λ (m : w * w + e * e ≤ r * r). is_some m (let f : word_add (word_add (word_add d w) w) 1 ≡ r * r - (w * w + e * e) = omega (arith, m, l, k, s, hw, hr) in f))
    (cases_lt (r * r) (w * w + e * e))

pub short_word : (r e w d : ℕ) → r ≤ 127 → e ≤ r → w ≤ r → r * r < w * w + e * e → d ≡ 65536 - (w * w + e * e - r * r) → (32768 ≤ d) × (0 < w)
short_word r e w d hr he hw l k =
    let s = small_squares r e w hr he hw in
    let t = square_up e r he in
    (omega (arith, l, k, s), ⊎_elim (λ (z : w < 1). let f : w * w ≡ 0 = ap (λ n. n * n) (let g : w ≡ 0 = omega (arith, z) in g) in absurd (omega (arith, f, l, t))) (λ (o : 1 ≤ w). omega (arith, o)) (cases_lt w 1))

pub some_word : (r e w d : ℕ) → r ≤ 127 → d ≡ r * r - (w * w + e * e) → d < 32768
some_word r e w d hr k = let t = square_up r 127 hr in omega (arith, k, t)

-- ---- the rows that are painted up to so far from the centre

module _ (x y r : ℕ) (circle : IsCircle x y r) where
  abbrev pub Rows : ℕ → ℕ → ℕ → Type 0
  Rows k x' y' = InCircle x y r x' y' × (distance y y' ≤ k)

  -- the first row
  pub first_row : (x' y' : ℕ) → InRectangle (x - r) y (x + r) y x' y' → Rows 0 x' y'
  first_row x' y' i =
      let a : distance x x' ≤ r = omega (arith, i, circle) in
      let b : distance y y' ≡ 0 = omega (arith, i) in
      let s = square_up (distance x x') r a in
      let f : distance y y' * distance y y' ≡ 0 = ap (λ n. n * n) b in
      (omega (arith, s, f), omega (arith, b))

  pub of_first_row : (x' y' : ℕ) → Rows 0 x' y' → InRectangle (x - r) y (x + r) y x' y'
  of_first_row x' y' q =
      let inner = q.0 in
      let near = q.1 in
      let b : distance y y' ≡ 0 = omega (arith, near) in
      let a : distance x x' ≤ r = ⊎_elim (λ (l : r < distance x x'). let s = square_up (r + 1) (distance x x') (omega (arith, l)) in absurd (omega (arith, s, inner))) (λ (k : distance x x' ≤ r). k) (cases_lt r (distance x x')) in
      (omega (arith, a), omega (arith, a), omega (arith, b), omega (arith, b))

  module _ (e w : ℕ) (half : IsHalf r (e + 1) w) (he : e < r) (hw : w ≤ r) where
    -- with the upper one of the next two rows
    abbrev pub Upper : ℕ → ℕ → Type 0
    Upper x' y' = InCircle x y r x' y' × ((distance y y' ≤ e) ⊎ (y' + (e + 1) ≡ y))

    in_it : (x' y' : ℕ) → distance x x' ≤ w → distance y y' ≡ e + 1 → InCircle x y r x' y'
    in_it x' y' a b =
        let i = in_row r (e + 1) w (distance x x') half a in
        let f : distance y y' * distance y y' ≡ (e + 1) * (e + 1) = ap (λ n. n * n) b in
        omega (arith, i, f)

    width : (x' y' : ℕ) → InCircle x y r x' y' → distance y y' ≡ e + 1 → distance x x' ≤ w
    width x' y' i b =
        let f : distance y y' * distance y y' ≡ (e + 1) * (e + 1) = ap (λ n. n * n) b in
        out_of_row r (e + 1) w (distance x x') half (omega (arith, i, f))

    pub upper_row : (x' y' : ℕ) → InRectangle (x - w) (y - (e + 1)) (x + w) (y - (e + 1)) x' y' → Upper x' y'
    upper_row x' y' i = (in_it x' y' (omega (arith, i, circle, hw)) (omega (arith, i, circle, he)), inr (omega (arith, i, circle, he)))

    pub of_upper : (x' y' : ℕ) → Upper x' y' → Rows e x' y' ⊎ InRectangle (x - w) (y - (e + 1)) (x + w) (y - (e + 1)) x' y'
    of_upper x' y' q =
        ⊎_elim (λ (l : distance y y' ≤ e). inl (q.0, l))
        (λ (f : y' + (e + 1) ≡ y).
        let a = width x' y' q.0 (omega (arith, f)) in
        inr (omega (arith, a), omega (arith, a), omega (arith, f), omega (arith, f))) q.1

    pub lower_row : (x' y' : ℕ) → InRectangle (x - w) (y + (e + 1)) (x + w) (y + (e + 1)) x' y' → Rows (e + 1) x' y'
    lower_row x' y' i = let b : distance y y' ≡ e + 1 = omega (arith, i) in (in_it x' y' (omega (arith, i, circle, hw)) b, omega (arith, b))

    pub upper_in : (x' y' : ℕ) → Upper x' y' → Rows (e + 1) x' y'
    upper_in x' y' q = (q.0, ⊎_elim (λ (l : distance y y' ≤ e). omega (arith, l)) (λ (f : y' + (e + 1) ≡ y). omega (arith, f)) q.1)

    pub of_lower : (x' y' : ℕ) → Rows (e + 1) x' y' → Upper x' y' ⊎ InRectangle (x - w) (y + (e + 1)) (x + w) (y + (e + 1)) x' y'
    of_lower x' y' q =
        let near = q.1 in
        ⊎_elim (λ (l : distance y y' < e + 1). inl (q.0, inl (omega (arith, l))))
        (λ (g : e + 1 ≤ distance y y').
        let b : distance y y' ≡ e + 1 = omega (arith, g, near) in
        let a = width x' y' q.0 b in
        ⊎_elim (λ (l : y' < y). inl (q.0, inr (omega (arith, l, b)))) (λ (k : y ≤ y'). inr (omega (arith, a), omega (arith, a), omega (arith, k, b), omega (arith, k, b))) (cases_lt y' y))
        (cases_lt (distance y y') (e + 1))

  -- no point is farther
  pub all_rows : (x' y' : ℕ) → InCircle x y r x' y' → Rows r x' y'
  all_rows x' y' i =
      (i, ⊎_elim (λ (l : r < distance y y'). let s = square_up (r + 1) (distance y y') (omega (arith, l)) in absurd (omega (arith, s, i))) (λ (k : distance y y' ≤ r). k) (cases_lt r (distance y y')))

-- A cell that is drawn, pixel by pixel.
use Rattle.std.proofs.Common.{◌≡◌, ◌≢◌, ◌⊎◌, inl, inr, ⊎_elim, ℕ, ◌+◌, ◌-◌, ◌*◌, ◌/◌, ◌%◌, ◌<◌, ◌≤◌, true, false, nat_lt, List, length, refl, sym, ap, ◌∙◌, arith}
use Rattle.std.proofs.lemmas.Bool.{cases_lt}
use Rattle.std.proofs.lemmas.Bool.Decides.{nat_tests}
use Rattle.os_laws.specs.Heap.{word_at}
use Rattle.os_laws.specs.Numbers.{bit}
use Rattle.os_functions.specs.CursorLaws.{cell_address}
use Rattle.os_functions.specs.PrintLaws.{pixel, glyph_dot, cell_pixel, IsDrawn}
use Rattle.os_functions.specs.ScreenLaws.{pixel_address}
use Rattle.os_functions.proofs.DrawFacts.{IsCell, IsOutside, IsDrawnTo}
use Rattle.os_functions.proofs.StringFacts.{same_or_not}

-- the upper or the lower half of a word
two : (b : ℕ) → b < 2 → (b ≡ 0) ⊎ (b ≡ 1)
two b h = grind arith

pub even_or_odd : (n : ℕ) → (n % 2 ≡ 0) ⊎ (n % 2 ≡ 1)
even_or_odd n = two (n % 2) (omega arith)

module _ (words : List ℕ) (glyph i j : ℕ) where
  inner_pixel : nat_lt i 5 ≡ true → nat_lt 0 j ≡ true → nat_lt j 8 ≡ true → cell_pixel words glyph i j ≡ glyph_dot words glyph i (j - 1)
  inner_pixel a b c = rw (a, b, c) refl

  right_pixel : nat_lt i 5 ≡ false → cell_pixel words glyph i j ≡ 0
  right_pixel a = rw a refl

  upper_pixel : nat_lt i 5 ≡ true → nat_lt 0 j ≡ false → cell_pixel words glyph i j ≡ 0
  upper_pixel a b = rw (a, b) refl

  lower_pixel : nat_lt i 5 ≡ true → nat_lt 0 j ≡ true → nat_lt j 8 ≡ false → cell_pixel words glyph i j ≡ 0
  lower_pixel a b c = rw (a, b, c) refl

is_less : (a b : ℕ) → a < b → nat_lt a b ≡ true
is_less a b h = grind (arith, nat_tests)

is_not_less : (a b : ℕ) → b ≤ a → nat_lt a b ≡ false
is_not_less a b h = grind (arith, nat_tests)

module _ (row column glyph : ℕ) (hr : row < 23) (hc : column < 64) (low : 2048 ≤ glyph) (high : glyph + 3 ≤ 16384) where
  abbrev top : ℕ
  top = cell_address row column

  abbrev q : ℕ
  q = 8 * (column % 2)

  pub cell_of : IsCell top q glyph
  cell_of = record {
    low = omega arith;
    high = omega (arith, hr, hc);
    half = ⊎_elim (λ (e : column % 2 ≡ 0). inl (let f : q ≡ 0 = omega (arith, e) in f)) (λ (e : column % 2 ≡ 1). inr (let f : q ≡ 8 = omega (arith, e) in f)) (even_or_odd column);
    heap = (low, high);
  }

  module _ (words words' : List ℕ) (long : length words ≡ 22528) (d : IsDrawnTo words top q glyph words' 5 0) where
    value : (i j : ℕ) → i < 8 → j < 11 → bit (word_at words' (top + 32 * j)) (q + i) ≡ cell_pixel words glyph i j
    value i j hi hj =
        ⊎_elim
        (λ (l : i < 5).
        ⊎_elim
        (λ (z : j < 1).
        let e : j ≡ 0 = omega (arith, z) in
        d.blank i j hi hj (inr (inr (inl e))) ∙ sym (upper_pixel words glyph i j (is_less i 5 l) (is_not_less 0 j (omega (arith, z)))))
        (λ (s : 1 ≤ j).
        ⊎_elim
        (λ (m : j < 8).
        let e : j ≡ (j - 1) + 1 = omega (arith, s) in
        ap (λ z. bit (word_at words' (top + 32 * z)) (q + i)) e ∙ d.dots i (j - 1) l (omega (arith, s, m)) (inl l) ∙ sym (inner_pixel words glyph i j (is_less i 5 l) (is_less 0 j (omega (arith, s))) (is_less j 8 m)))
        (λ (g : 8 ≤ j). d.blank i j hi hj (inr (inr (inr g))) ∙ sym (lower_pixel words glyph i j (is_less i 5 l) (is_less 0 j (omega (arith, s))) (is_not_less j 8 g)))
        (cases_lt j 8))
        (cases_lt j 1))
        (λ (g : 5 ≤ i).
        ⊎_elim
        (λ (m : 5 < i). d.blank i j hi hj (inl m))
        (λ (m : i ≤ 5).
        let e : i ≡ 5 = omega (arith, g, m) in
        ⊎_elim (λ (z : j < 1). let f : j ≡ 0 = omega (arith, z) in d.blank i j hi hj (inr (inr (inl f)))) (λ (s : 1 ≤ j). d.blank i j hi hj (inr (inl (e, omega (arith, s))))) (cases_lt j 1))
        (cases_lt 5 i)
        ∙ sym (right_pixel words glyph i j (is_not_less i 5 g)))
        (cases_lt i 5)

    in_cell : (i j : ℕ) → i < 8 → j < 11 → pixel words' (8 * column + i) (11 * row + j) ≡ cell_pixel words glyph i j
    in_cell i j hi hj =
        let address : pixel_address (8 * column + i) (11 * row + j) ≡ top + 32 * j = omega (arith, hi) in
        let place : (8 * column + i) % 16 ≡ q + i = omega (arith, hi) in
        ap (λ a. bit (word_at words' a) ((8 * column + i) % 16)) address ∙ ap (bit (word_at words' (top + 32 * j))) place ∙ value i j hi hj

    outside : (x y : ℕ) → x < 512 → y < 256 → (x / 8 ≢ column) ⊎ (y / 11 ≢ row) → IsOutside top q (pixel_address x y) (x % 16)
    outside x y hx hy (inr n) = inl (λ r h e. n (let z : y / 11 ≡ row = omega (arith, e, h, hx, hc) in z))
    outside x y hx hy (inl n) =
        ⊎_elim
        (λ (same : x / 16 ≡ column / 2).
        ⊎_elim
        (λ (l : x % 16 < 8).
        ⊎_elim (λ (e : column % 2 ≡ 0). absurd (n (let z : x / 8 ≡ column = omega (arith, same, l, e) in z))) (λ (e : column % 2 ≡ 1). inr (inl (omega (arith, l, e)))) (even_or_odd column))
        (λ (g : 8 ≤ x % 16).
        ⊎_elim (λ (e : column % 2 ≡ 0). inr (inr (omega (arith, g, e)))) (λ (e : column % 2 ≡ 1). absurd (n (let z : x / 8 ≡ column = omega (arith, same, g, e) in z))) (even_or_odd column))
        (cases_lt (x % 16) 8))
        (λ (other : x / 16 ≢ column / 2). inl (λ r h e. other (let z : x / 16 ≡ column / 2 = omega (arith, e, hx, hc) in z)))
        (same_or_not (x / 16) (column / 2))

    pub is_drawn : IsDrawn words row column glyph words'
    is_drawn = record {
      same_length = d.keeps.long ∙ sym long;
      cell = λ i j hi hj. in_cell i j hi hj;
      others = λ x y hx hy o. d.keeps.outside (pixel_address x y) (x % 16) (omega arith) (omega arith) (outside x y hx hy o);
      heap = λ a l h. d.keeps.heap a l h;
      each = λ a l h. d.keeps.words a l h;
    }

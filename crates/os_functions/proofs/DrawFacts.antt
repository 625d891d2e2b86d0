-- The pixels of a cell while a character is drawn.
use Rattle.std.proofs.Common.{◌≡◌, ◌≢◌, ◌⊎◌, inl, inr, ⊎_elim, ℕ, zero, suc, ◌+◌, ◌-◌, ◌*◌, ◌^◌, ◌<◌, ◌≤◌, min, bit_and, bit_or, List, length, refl, sym, ap, ◌∙◌, arith}
use Rattle.std.specs.Prelude.{slice_set}
use Rattle.std.proofs.lemmas.Bool.{cases_lt}
use Rattle.std.proofs.lemmas.List.{length-set}
use Rattle.std.proofs.lemmas.Nat.{and_le_l, or_of_16, pow_below}
use Rattle.std.proofs.lemmas.Nat.Bits.{bit_at-lt, bit_at_and}
use Rattle.os_laws.specs.Heap.{word_at}
use Rattle.os_laws.specs.Numbers.{bit}
use Rattle.os_laws.proofs.Storing.{other_word}
use Rattle.os_functions.specs.PrintLaws.{glyph_dot}
use Rattle.os_functions.proofs.PixelFacts.{set_here, set_beside}
use Rattle.os_functions.proofs.StringFacts.{same_or_not, this_word}

-- ---- masks

abbrev Below : (ℕ → ℕ) → ℕ → ℕ → Type 0
Below f v zero = Unit {0}
Below f v (suc n) = (f n ≡ v) × Below f v n

each_below : (f : ℕ → ℕ) (v n : ℕ) → Below f v n → (k : ℕ) → k < n → f k ≡ v
each_below f v zero b k h = absurd (omega (arith, h))
each_below f v (suc n) b k h = ⊎_elim (λ (l : k < n). each_below f v n b.1 k l) (λ (g : n ≤ k). ap f (let e : k ≡ n = omega (arith, g, h) in e) ∙ b.0) (cases_lt k n)

-- a mask clears the eight bits from q on
pub record IsMask (q other : ℕ) : Type 0 where
  pub half : (q ≡ 0) ⊎ (q ≡ 8)
  pub clears : (k : ℕ) → k < 8 → bit other (q + k) ≡ 0
  pub keeps : (m : ℕ) → m < 16 → (m < q) ⊎ (q + 8 ≤ m) → bit other m ≡ 1

abbrev upper : ℕ → ℕ
upper k = bit 65280 (8 + k)

pub left_mask : IsMask 0 65280
left_mask = record {
  half = inl refl;
  clears = λ k h. each_below (λ i. bit 65280 (0 + i)) 0 8 (refl, (refl, (refl, (refl, (refl, (refl, (refl, (refl, tt)))))))) k h;
  keeps = λ m h o.
      ⊎_elim (λ (l : m < 0). absurd (omega (arith, l)))
      (λ (g : 0 + 8 ≤ m). ap (bit 65280) (let e : m ≡ 8 + (m - 8) = omega (arith, g) in e) ∙ each_below upper 1 8 (refl, (refl, (refl, (refl, (refl, (refl, (refl, (refl, tt)))))))) (m - 8) (omega (arith, g, h))) o;
}

pub right_mask : IsMask 8 255
right_mask = record {
  half = inr refl;
  clears = λ k h. each_below (λ i. bit 255 (8 + i)) 0 8 (refl, (refl, (refl, (refl, (refl, (refl, (refl, (refl, tt)))))))) k h;
  keeps = λ m h o.
      ⊎_elim (λ (l : m < 8). each_below (bit 255) 1 8 (refl, (refl, (refl, (refl, (refl, (refl, (refl, (refl, tt)))))))) m l)
      (λ (g : 8 + 8 ≤ m). absurd (omega (arith, g, h))) o;
}

-- ---- a word that is stored

module _ (ws : List ℕ) (long : length ws ≡ 22528) (at : ℕ) (low : 16384 ≤ at) (high : at < 24576) where
  abbrev stored_at : ℕ → List ℕ
  stored_at w = slice_set ws (at - 2048) w

  stored_long : (w : ℕ) → length (stored_at w) ≡ 22528
  stored_long w = length-set ws (at - 2048) w ∙ long

  stored_here : (w : ℕ) → word_at (stored_at w) at ≡ w
  stored_here w = this_word ws at w long (omega (arith, low)) high

  stored_other : (w b : ℕ) → 2048 ≤ b → b ≢ at → word_at (stored_at w) b ≡ word_at ws b
  stored_other w b h d = other_word ws at b w (omega (arith, low)) h d

  -- a word that is stored, of 16 bits where the one there is: all are words of 16 bits still
  changed_small : (w b : ℕ) → (word_at ws at < 65536 → w < 65536) → 2048 ≤ b → word_at ws b < 65536 → word_at (stored_at w) b < 65536
  changed_small w b small h was =
      ⊎_elim
      (λ (e : b ≡ at).
      let f : word_at (stored_at w) b ≡ w = ap (word_at (stored_at w)) e ∙ stored_here w in
      let g : word_at ws b ≡ word_at ws at = ap (word_at ws) e in
      let s = small (omega (arith, g, was)) in
      omega (arith, f, s))
      (λ (d : b ≢ at). let f = stored_other w b h d in omega (arith, f, was))
      (same_or_not b at)

  and_small : (other b : ℕ) → 2048 ≤ b → word_at ws b < 65536 → word_at (stored_at (bit_and (word_at ws at) other)) b < 65536
  and_small other b h was = changed_small (bit_and (word_at ws at) other) b (λ s. let l = and_le_l (word_at ws at) other in omega (arith, l, s)) h was

  or_small : (n b : ℕ) → n < 16 → 2048 ≤ b → word_at ws b < 65536 → word_at (stored_at (bit_or (word_at ws at) (2 ^ n))) b < 65536
  or_small n b few h was = changed_small (bit_or (word_at ws at) (2 ^ n)) b (λ s. or_of_16 (word_at ws at) (2 ^ n) s (pow_below n 16 few)) h was

  -- one bit set
  bit_set : (n : ℕ) → bit (word_at (stored_at (bit_or (word_at ws at) (2 ^ n))) at) n ≡ 1
  bit_set n = ap (λ w. bit w n) (stored_here (bit_or (word_at ws at) (2 ^ n))) ∙ set_here (word_at ws at) n

  bit_kept : (n b m : ℕ) → 2048 ≤ b → (b ≢ at) ⊎ (m ≢ n) → bit (word_at (stored_at (bit_or (word_at ws at) (2 ^ n))) b) m ≡ bit (word_at ws b) m
  bit_kept n b m h (inl d) = ap (λ w. bit w m) (stored_other (bit_or (word_at ws at) (2 ^ n)) b h d)
  bit_kept n b m h (inr d) =
      ⊎_elim
      (λ (e : b ≡ at).
      ap (λ z. bit (word_at (stored_at (bit_or (word_at ws at) (2 ^ n))) z) m) e ∙ ap (λ w. bit w m) (stored_here (bit_or (word_at ws at) (2 ^ n))) ∙ set_beside (word_at ws at) n m d ∙ ap (λ z. bit (word_at ws z) m) (sym e))
      (λ (o : b ≢ at). ap (λ w. bit w m) (stored_other (bit_or (word_at ws at) (2 ^ n)) b h o))
      (same_or_not b at)

  -- eight bits cleared
  module _ (q other : ℕ) (mask : IsMask q other) where
    bits_clear : (k : ℕ) → k < 8 → bit (word_at (stored_at (bit_and (word_at ws at) other)) at) (q + k) ≡ 0
    bits_clear k h =
        ap (λ w. bit w (q + k)) (stored_here (bit_and (word_at ws at) other)) ∙ bit_at_and (word_at ws at) other (q + k) ∙ ap (min (bit (word_at ws at) (q + k))) (mask.clears k h)
        ∙ (let e : min (bit (word_at ws at) (q + k)) 0 ≡ 0 = omega arith in e)

    bits_kept : (b m : ℕ) → 2048 ≤ b → m < 16 → (b ≢ at) ⊎ ((m < q) ⊎ (q + 8 ≤ m)) → bit (word_at (stored_at (bit_and (word_at ws at) other)) b) m ≡ bit (word_at ws b) m
    bits_kept b m h s (inl d) = ap (λ w. bit w m) (stored_other (bit_and (word_at ws at) other) b h d)
    bits_kept b m h s (inr o) =
        ⊎_elim
        (λ (e : b ≡ at).
        ap (λ z. bit (word_at (stored_at (bit_and (word_at ws at) other)) z) m) e ∙ ap (λ w. bit w m) (stored_here (bit_and (word_at ws at) other)) ∙ bit_at_and (word_at ws at) other m
        ∙ ap (min (bit (word_at ws at) m)) (mask.keeps m s o) ∙ (let f : min (bit (word_at ws at) m) 1 ≡ bit (word_at ws at) m = omega (arith, bit_at-lt (word_at ws at) m) in f) ∙ ap (λ z. bit (word_at ws z) m) (sym e))
        (λ (d : b ≢ at). ap (λ w. bit w m) (stored_other (bit_and (word_at ws at) other) b h d))
        (same_or_not b at)

-- ---- a cell whose top word is at `top`, with the eight bits from q on; the words at first, and the glyph's place

pub record IsCell (top q glyph : ℕ) : Type 0 where
  pub low : 16384 ≤ top
  pub high : top + 320 < 24576
  pub half : (q ≡ 0) ⊎ (q ≡ 8)
  pub heap : (2048 ≤ glyph) × (glyph + 3 ≤ 16384)

-- bit m of the word at an address is no pixel of the cell
abbrev pub IsOutside : ℕ → ℕ → ℕ → ℕ → Type 0
IsOutside top q b m = ((r : ℕ) → r < 11 → b ≢ top + 32 * r) ⊎ ((m < q) ⊎ (q + 8 ≤ m))

-- nothing else has changed
pub record Keeps (first : List ℕ) (top q : ℕ) (ws : List ℕ) : Type 0 where
  pub long : length ws ≡ 22528
  pub heap : (b : ℕ) → 2048 ≤ b → b < 16384 → word_at ws b ≡ word_at first b
  pub outside : (b m : ℕ) → 2048 ≤ b → m < 16 → IsOutside top q b m → bit (word_at ws b) m ≡ bit (word_at first b) m
  pub words : (b : ℕ) → 2048 ≤ b → word_at first b < 65536 → word_at ws b < 65536

-- the first t rows of the cell are white
pub record IsCleared (first : List ℕ) (top q : ℕ) (ws : List ℕ) (t : ℕ) : Type 0 where
  pub keeps : Keeps first top q ws
  pub blank : (k r : ℕ) → k < 8 → r < t → bit (word_at ws (top + 32 * r)) (q + k) ≡ 0

-- no dot is drawn here, where the first i columns are, and j dots of the next one; A dot of row r stands at the row r + 1 of the cell
abbrev pub IsBlank : ℕ → ℕ → ℕ → ℕ → Type 0
IsBlank i j k r = (i < k) ⊎ (((k ≡ i) × (j < r)) ⊎ ((r ≡ 0) ⊎ (8 ≤ r)))

pub record IsDrawnTo (first : List ℕ) (top q glyph : ℕ) (ws : List ℕ) (i j : ℕ) : Type 0 where
  pub keeps : Keeps first top q ws
  pub dots : (k r : ℕ) → k < 5 → r < 7 → (k < i) ⊎ ((k ≡ i) × (r < j)) → bit (word_at ws (top + 32 * (r + 1))) (q + k) ≡ glyph_dot first glyph k r
  pub blank : (k r : ℕ) → k < 8 → r < 11 → IsBlank i j k r → bit (word_at ws (top + 32 * r)) (q + k) ≡ 0

module _ (first : List ℕ) (top q glyph : ℕ) (cell : IsCell top q glyph) where
  pub low_row : (r : ℕ) → 16384 ≤ top + 32 * r
  low_row r = omega (arith, cell.low)

  pub high_row : (r : ℕ) → r < 11 → top + 32 * r < 24576
  high_row r h = omega (arith, cell.high, h)

  -- ---- clearing

  pub none_cleared : length first ≡ 22528 → IsCleared first top q first 0
  none_cleared long = record {
    keeps = record { long = long; heap = λ b l h. refl; outside = λ b m l h o. refl; words = λ b l h. h };
    blank = λ k r h l. absurd (omega (arith, l));
  }

  pub row_cleared : (other : ℕ) → IsMask q other → (ws : List ℕ) (t : ℕ) → t < 11 → IsCleared first top q ws t → IsCleared first top q (slice_set ws (top + 32 * t - 2048) (bit_and (word_at ws (top + 32 * t)) other)) (t + 1)
  row_cleared other mask ws t ht was =
      let at = top + 32 * t in
      let low = low_row t in
      let high = high_row t ht in
      let long = was.keeps.long in
      record {
        keeps = record {
          long = stored_long ws long at low high (bit_and (word_at ws at) other);
          heap = λ b l h. stored_other ws long at low high (bit_and (word_at ws at) other) b l (λ e. omega (arith, e, h, low)) ∙ was.keeps.heap b l h;
          outside = λ b m l h o. bits_kept ws long at low high q other mask b m l h (⊎_elim (λ d. inl (d t ht)) (λ e. inr e) o) ∙ was.keeps.outside b m l h o;
          words = λ b l h. and_small ws long at low high other b l (was.keeps.words b l h);
        };
        blank = λ k r hk hr.
            ⊎_elim
            (λ (l : r < t).
            bits_kept ws long at low high q other mask (top + 32 * r) (q + k) (omega (arith, cell.low)) (inside k hk) (inl (λ e. omega (arith, e, l))) ∙ was.blank k r hk l)
            (λ (g : t ≤ r). let e : r ≡ t = omega (arith, g, hr) in
            ap (λ z. bit (word_at (slice_set ws (at - 2048) (bit_and (word_at ws at) other)) (top + 32 * z)) (q + k)) e ∙ bits_clear ws long at low high q other mask k hk)
            (cases_lt r t);
      }
    where
      inside : (k : ℕ) → k < 8 → q + k < 16
      inside k h = ⊎_elim (λ (e : q ≡ 0). let l : q + k < 16 = omega (arith, e, h) in l) (λ (e : q ≡ 8). let l : q + k < 16 = omega (arith, e, h) in l) cell.half

  -- ---- drawing

  pub none_drawn : (ws : List ℕ) → IsCleared first top q ws 11 → IsDrawnTo first top q glyph ws 0 0
  none_drawn ws was = record {
    keeps = was.keeps;
    dots = λ k r hk hr o. absurd (⊎_elim (λ (l : k < 0). omega (arith, l)) (λ (b : (k ≡ 0) × (r < 0)). omega (arith, b.1)) o);
    blank = λ k r hk hr o. was.blank k r hk hr;
  }

  -- the column is done
  pub column_drawn : (ws : List ℕ) (i : ℕ) → IsDrawnTo first top q glyph ws i 7 → IsDrawnTo first top q glyph ws (i + 1) 0
  column_drawn ws i was = record {
    keeps = was.keeps;
    dots = λ k r hk hr o.
        was.dots k r hk hr
        (⊎_elim
        (λ (l : k < i + 1). ⊎_elim (λ (m : k < i). inl m) (λ (g : i ≤ k). inr ((let e : k ≡ i = omega (arith, g, l) in e), hr)) (cases_lt k i))
        (λ (b : (k ≡ i + 1) × (r < 0)). absurd (omega (arith, b.1))) o);
    blank = λ k r hk hr o.
        was.blank k r hk hr
        (⊎_elim
        (λ (l : i + 1 < k). inl (omega (arith, l)))
        (λ (b : ((k ≡ i + 1) × (0 < r)) ⊎ ((r ≡ 0) ⊎ (8 ≤ r))). ⊎_elim (λ (e : (k ≡ i + 1) × (0 < r)). let f = e.0 in inl (omega (arith, f))) (λ (z : (r ≡ 0) ⊎ (8 ≤ r)). inr (inr z)) b) o);
  }

  module _ (ws : List ℕ) (i j : ℕ) (hi : i < 5) (hj : j < 7) (was : IsDrawnTo first top q glyph ws i j) where
    fewer : (k r : ℕ) → IsBlank i (j + 1) k r → IsBlank i j k r
    fewer k r (inl l) = inl l
    fewer k r (inr (inl b)) = inr (inl (b.0, (let l = b.1 in omega (arith, l))))
    fewer k r (inr (inr z)) = inr (inr z)

    -- a dot that is white stays
    pub dot_white : glyph_dot first glyph i j ≡ 0 → IsDrawnTo first top q glyph ws i (j + 1)
    dot_white white = record {
      keeps = was.keeps;
      dots = λ k r hk hr o.
          ⊎_elim (λ (l : k < i). was.dots k r hk hr (inl l))
          (λ (b : (k ≡ i) × (r < j + 1)).
          ⊎_elim (λ (l : r < j). was.dots k r hk hr (inr (b.0, l)))
          (λ (g : j ≤ r).
          let less = b.1 in
          let e : r ≡ j = omega (arith, g, less) in
          was.blank k (r + 1) (omega (arith, hk)) (omega (arith, hr)) (inr (inl (b.0, omega (arith, g)))) ∙ sym (ap (glyph_dot first glyph k) e ∙ ap (λ z. glyph_dot first glyph z j) b.0 ∙ white))
          (cases_lt r j)) o;
      blank = λ k r hk hr o. was.blank k r hk hr (fewer k r o);
    }

    abbrev here : ℕ
    here = top + 32 * (j + 1)

    abbrev black : List ℕ
    black = slice_set ws (here - 2048) (bit_or (word_at ws here) (2 ^ (q + i)))

    kept : (b m : ℕ) → 2048 ≤ b → (b ≢ here) ⊎ (m ≢ q + i) → bit (word_at black b) m ≡ bit (word_at ws b) m
    kept b m l d = bit_kept ws was.keeps.long here (low_row (j + 1)) (high_row (j + 1) (omega (arith, hj))) (q + i) b m l d

    -- a bit that is drawn already is another one
    other_dot : (k r : ℕ) → (k < i) ⊎ ((k ≡ i) × (r < j)) → (top + 32 * (r + 1) ≢ here) ⊎ (q + k ≢ q + i)
    other_dot k r (inl l) = inr (λ e. omega (arith, e, l))
    other_dot k r (inr b) = inl (λ e. let l = b.1 in omega (arith, e, l))

    other_blank : (k r : ℕ) → IsBlank i (j + 1) k r → (top + 32 * r ≢ here) ⊎ (q + k ≢ q + i)
    other_blank k r (inl l) = inr (λ e. omega (arith, e, l))
    other_blank k r (inr (inl b)) = inl (λ e. let l = b.1 in omega (arith, e, l))
    other_blank k r (inr (inr (inl z))) = inl (λ e. omega (arith, e, z))
    other_blank k r (inr (inr (inr z))) = inl (λ e. omega (arith, e, z, hj))

    other_outside : (b m : ℕ) → IsOutside top q b m → (b ≢ here) ⊎ (m ≢ q + i)
    other_outside b m (inl d) = inl (d (j + 1) (omega (arith, hj)))
    other_outside b m (inr (inl l)) = inr (λ e. omega (arith, e, l))
    other_outside b m (inr (inr l)) = inr (λ e. omega (arith, e, l, hi))

    old : (k r : ℕ) → k < 5 → r < 7 → (k < i) ⊎ ((k ≡ i) × (r < j)) → bit (word_at black (top + 32 * (r + 1))) (q + k) ≡ glyph_dot first glyph k r
    old k r hk hr o = kept (top + 32 * (r + 1)) (q + k) (omega (arith, cell.low)) (other_dot k r o) ∙ was.dots k r hk hr o

    pub dot_black : glyph_dot first glyph i j ≡ 1 → IsDrawnTo first top q glyph black i (j + 1)
    dot_black one =
        let low = low_row (j + 1) in
        let high = high_row (j + 1) (omega (arith, hj)) in
        let in_word : q + i < 16 =
        ⊎_elim (λ (e : q ≡ 0). let l : q + i < 16 = omega (arith, e, hi) in l) (λ (e : q ≡ 8). let l : q + i < 16 = omega (arith, e, hi) in l) cell.half in
        record {
          keeps = record {
            long = stored_long ws was.keeps.long here low high (bit_or (word_at ws here) (2 ^ (q + i)));
            heap = λ b l h. stored_other ws was.keeps.long here low high (bit_or (word_at ws here) (2 ^ (q + i))) b l (λ e. omega (arith, e, h, low)) ∙ was.keeps.heap b l h;
            outside = λ b m l h o. kept b m l (other_outside b m o) ∙ was.keeps.outside b m l h o;
            words = λ b l h. or_small ws was.keeps.long here low high (q + i) b in_word l (was.keeps.words b l h);
          };
          dots = λ k r hk hr o.
              ⊎_elim (λ (l : k < i). old k r hk hr (inl l))
              (λ (b : (k ≡ i) × (r < j + 1)).
              ⊎_elim (λ (l : r < j). old k r hk hr (inr (b.0, l)))
              (λ (g : j ≤ r).
              let less = b.1 in
              let e : r ≡ j = omega (arith, g, less) in
              ap (λ z. bit (word_at black (top + 32 * (z + 1))) (q + k)) e ∙ ap (λ z. bit (word_at black here) (q + z)) b.0 ∙ bit_set ws was.keeps.long here low high (q + i)
              ∙ sym (ap (glyph_dot first glyph k) e ∙ ap (λ z. glyph_dot first glyph z j) b.0 ∙ one))
              (cases_lt r j)) o;
          blank = λ k r hk hr o. kept (top + 32 * r) (q + k) (omega (arith, cell.low)) (other_blank k r o) ∙ was.blank k r hk hr (fewer k r o);
        }

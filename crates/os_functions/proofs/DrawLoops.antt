-- A character drawn: the loops.
use Rattle.std.proofs.Common.{◌≡◌, ◌⊎◌, inl, inr, ⊎_elim, ℕ, zero, suc, ◌+◌, ◌-◌, ◌*◌, ◌/◌, ◌%◌, ◌^◌, ◌<◌, ◌≤◌, true, false, nat_lt, bit_and, bit_or, List, [], ◌∷◌, length, Some, refl, sym, ap, ◌∙◌, subst, arith}
use Rattle.std.specs.Prelude.{slice_index, slice_set, if◌then◌else◌}
use Rattle.std.proofs.lemmas.Bool.{cases_lt}
use Rattle.std.proofs.lemmas.Bool.Decides.{nat_tests}
use Rattle.std.proofs.lemmas.Nat.{pow_below, pow_pos, le_or_l, le_or_r}
use Rattle.std.proofs.lemmas.Nat.Bits.{and_pow, bit_at-lt}
use Rattle.word16.specs.Words.{word_add, word_sub, word_lt, word_gt}
use Rattle.jack_meaning.specs.Text.{End, Subroutine}
use Rattle.os_laws.specs.Heap.{word_at}
use Rattle.os_laws.specs.Numbers.{bit}
use Rattle.os_laws.proofs.Comparing.{less, not_less}
use Rattle.os_laws.proofs.Runs.{Call, run, run_then}
use Rattle.os_laws.proofs.Walking.{here}
use Rattle.os_functions.specs.PrintLaws.{shown_code}
use Rattle.os_functions.proofs.Pieces.{in_call, returns_value}
use Rattle.os_functions.proofs.PixelFacts.{one_more}
use Rattle.os_functions.proofs.StringFacts.{negative_below}
use Rattle.os_functions.proofs.Texts.{draw_body, glyph_text}
use Rattle.os_functions.proofs.DrawRuns.{at_text, locals, left_half, right_half, at_clear, clear_row, all_clear, at_column, at_row, column_begins, row_white, row_black, left_column_ends, right_column_ends, all_drawn, has_glyph, has_none}
use Rattle.os_functions.proofs.DrawFacts.{IsMask, left_mask, right_mask, IsCell, IsCleared, IsDrawnTo, low_row, high_row, none_cleared, row_cleared, none_drawn, column_drawn, dot_white, dot_black}

two : (b : ℕ) → b < 2 → (b ≡ 0) ⊎ (b ≡ 1)
two b h = grind arith

doubled : (e e' : ℕ) → e' ≡ suc e → e < 15 → word_add (2 ^ e) (2 ^ e) ≡ 2 ^ e'
doubled e e' s h =
    let twice : 2 ^ suc e ≡ 2 * 2 ^ e = omega arith in
    let few : 2 ^ e < 32768 = pow_below e 15 h in
    (let m : word_add (2 ^ e) (2 ^ e) ≡ 2 * 2 ^ e = omega (arith, few) in m) ∙ sym twice ∙ ap (λ z. 2 ^ z) (sym s)

one_less : (m : ℕ) → m < 65535 → word_sub (suc m) 1 ≡ m
one_less m h = omega (arith, h)

module _ (subs : List Subroutine) (g : ℕ) (ss : List ℕ) (place c : ℕ) (first : List ℕ) (top q glyph : ℕ) (cell : IsCell top q glyph) (at : slice_index ss place ≡ top) (other : ℕ) (mask : IsMask q other) where
  next_row : (j : ℕ) → j < 11 → word_add (top + 32 * j) 32 ≡ top + 32 * (j + 1)
  next_row j h = omega (arith, cell.high, h)

  -- ---- clearing

  clear_rows : (pixel m t : ℕ) (ws : List ℕ) → t + m ≡ 11 → IsCleared first top q ws t
      → (ws' : List ℕ) × IsCleared first top q ws' 11 × (run subs (18 * m) (at_clear subs g ss place c glyph other pixel ws (top + 32 * t) m) ≡ Some (at_clear subs g ss place c glyph other pixel ws' (top + 32 * 11) 0))
  clear_rows pixel zero t ws e was =
      let f : t ≡ 11 = omega (arith, e) in
      (ws, subst (λ z. IsCleared first top q ws z) f was, ap (λ (z : ℕ). Some (at_clear subs g ss place c glyph other pixel ws (top + 32 * z) 0)) f)
  clear_rows pixel (suc m) t ws e was =
      let ht : t < 11 = omega (arith, e) in
      let at = top + 32 * t in
      let next = row_cleared first top q glyph cell other mask ws t ht was in
      let ran = clear_row subs g ss place c glyph other pixel ws at (top + 32 * (t + 1)) m m (here at (let l = low_row first top q glyph cell t in omega (arith, l)) (high_row first top q glyph cell t ht)) (next_row t ht) (one_less m (omega (arith, e))) in
      let (ws', done, rest) = clear_rows pixel m (t + 1) _ (omega (arith, e)) next in
      let count : 18 * suc m ≡ 18 + 18 * m = omega arith in
      (ws', done, ap (λ n. run subs n (at_clear subs g ss place c glyph other pixel ws at (suc m))) count ∙ run_then subs 18 (18 * m) _ _ _ ran rest)

  -- ---- a column

  abbrev dots_of : ℕ → ℕ
  dots_of i = word_at first (glyph + i / 2)

  -- at the loop over the rows of column i, where this many columns are to come, at its row j, where this many rows
  -- are
  abbrev row_at : ℕ → ℕ → List ℕ → ℕ → ℕ → Call
  row_at i columns ws j m = at_row subs g ss place c other ws (glyph + i / 2) (top + 32 * (j + 1)) (2 ^ (q + i)) (dots_of i) (2 ^ (7 * (i % 2) + j)) m columns

  module _ (i : ℕ) (hi : i < 5) (columns : ℕ) where
    abbrev dots : ℕ
    dots = dots_of i

    abbrev low_dot : ℕ
    low_dot = 7 * (i % 2)

    abbrev row_of : List ℕ → ℕ → ℕ → Call
    row_of ws j m = row_at i columns ws j m

    small_dot : (j : ℕ) → j < 7 → low_dot + j < 15
    small_dot j h = omega (arith, h)

    row_drawn : (ws : List ℕ) (j m : ℕ) → j < 7 → m < 65535 → IsDrawnTo first top q glyph ws i j → (n : ℕ) × (n ≤ 26) × (ws' : List ℕ) × IsDrawnTo first top q glyph ws' i (j + 1) × (run subs n (row_of ws j (suc m)) ≡ Some (row_of ws' (j + 1) m))
    row_drawn ws j m hj hm was =
        let gl = glyph + i / 2 in
        let word = top + 32 * (j + 1) in
        let word' = top + 32 * (j + 1 + 1) in
        let dot = 2 ^ (low_dot + j) in
        let dot' = 2 ^ (low_dot + (j + 1)) in
        let to_word : word_add word 32 ≡ word' = next_row (j + 1) (omega (arith, hj)) in
        let to_dot : word_add dot dot ≡ dot' = doubled (low_dot + j) (low_dot + (j + 1)) (let s : low_dot + (j + 1) ≡ suc (low_dot + j) = omega arith in s) (small_dot j hj) in
        let less = one_less m hm in
        let tests : bit_and dots dot ≡ bit dots (low_dot + j) * dot = and_pow dots (low_dot + j) in
        ⊎_elim
        (λ (white : bit dots (low_dot + j) ≡ 0).
        let none : bit_and dots dot ≡ 0 = tests ∙ ap (λ z. z * dot) white ∙ (let z : 0 * dot ≡ 0 = omega arith in z) in
        (18, omega arith, ws, dot_white first top q glyph cell ws i j hi hj was white, row_white subs g ss place c other ws gl word (2 ^ (q + i)) dots dot columns word' dot' m m none to_word to_dot less))
        (λ (black : bit dots (low_dot + j) ≡ 1).
        let (k, some) = one_more dot (pow_pos (low_dot + j)) in
        let has : bit_and dots dot ≡ suc k = tests ∙ ap (λ z. z * dot) black ∙ (let z : 1 * dot ≡ dot = omega arith in z) ∙ some in
        let reached = here word (let l = low_row first top q glyph cell (j + 1) in omega (arith, l)) (high_row first top q glyph cell (j + 1) (omega (arith, hj))) in
        (26, omega arith, slice_set ws (word - 2048) (bit_or (word_at ws word) (2 ^ (q + i))), dot_black first top q glyph cell ws i j hi hj was black, row_black subs g ss place c other ws gl word (2 ^ (q + i)) dots dot columns word' dot' m m k has reached to_word to_dot less))
        (two (bit dots (low_dot + j)) (bit_at-lt dots (low_dot + j)))

    rows_drawn : (m j : ℕ) (ws : List ℕ) → j + m ≡ 7 → IsDrawnTo first top q glyph ws i j → (n : ℕ) × (n ≤ 26 * m) × (ws' : List ℕ) × IsDrawnTo first top q glyph ws' i 7 × (run subs n (row_of ws j m) ≡ Some (row_of ws' 7 0))
    rows_drawn zero j ws e was =
        let f : j ≡ 7 = omega (arith, e) in
        (0, omega arith, ws, subst (λ z. IsDrawnTo first top q glyph ws i z) f was, ap (λ (z : ℕ). Some (row_of ws z 0)) f)
    rows_drawn (suc m) j ws e was =
        let (n, few, ws', next, ran) = row_drawn ws j m (omega (arith, e)) (omega (arith, e)) was in
        let (n', few', ws'', done, rest) = rows_drawn m (j + 1) ws' (omega (arith, e)) next in
        (n + n', omega (arith, few, few'), ws'', done, run_then subs n n' _ _ _ ran rest)

  abbrev column_of : List ℕ → ℕ → ℕ → ℕ → ℕ → Call
  column_of ws i word dots m = at_column subs g ss place c other ws (glyph + i / 2) word (2 ^ (q + i)) dots (2 ^ (7 * (i % 2))) m

  small_pixel : (i : ℕ) → i < 5 → q + i < 15
  small_pixel i h = ⊎_elim (λ (e : q ≡ 0). let l : q + i < 15 = omega (arith, e, h) in l) (λ (e : q ≡ 8). let l : q + i < 15 = omega (arith, e, h) in l) cell.half

  -- after the rows of a column
  module _ (ws : List ℕ) (i m : ℕ) (hi : i < 5) (hm : m < 65535) where
    abbrev gl : ℕ
    gl = glyph + i / 2

    abbrev word : ℕ
    word = top + 32 * 8

    to_pixel : word_add (2 ^ (q + i)) (2 ^ (q + i)) ≡ 2 ^ (q + (i + 1))
    to_pixel = doubled (q + i) (q + (i + 1)) (let s : q + (i + 1) ≡ suc (q + i) = omega arith in s) (small_pixel i hi)

    left_ends : i % 2 ≡ 0 → run subs 14 (row_at i (suc m) ws 7 0) ≡ Some (column_of ws (i + 1) word (dots_of i) m)
    left_ends h =
        ap (λ (z : ℕ). run subs 14 (at_row subs g ss place c other ws gl word (2 ^ (q + i)) (dots_of i) (2 ^ (7 * z + 7)) 0 (suc m))) h
        ∙ left_column_ends subs g ss place c other ws gl word (2 ^ (q + i)) (dots_of i) (2 ^ (q + (i + 1))) m m to_pixel (one_less m hm)
        ∙ ap (λ (z : ℕ). Some (at_column subs g ss place c other ws (glyph + z) word (2 ^ (q + (i + 1))) (dots_of i) 128 m)) (let e : i / 2 ≡ (i + 1) / 2 = omega (arith, h) in e)
        ∙ ap (λ (z : ℕ). Some (at_column subs g ss place c other ws (glyph + (i + 1) / 2) word (2 ^ (q + (i + 1))) (dots_of i) (2 ^ (7 * z)) m)) (let e : 1 ≡ (i + 1) % 2 = omega (arith, h) in e)

    right_ends : i % 2 ≡ 1 → run subs 20 (row_at i (suc m) ws 7 0) ≡ Some (column_of ws (i + 1) word (dots_of i) m)
    right_ends h =
        let to_glyph : word_add gl 1 ≡ glyph + (i + 1) / 2 = omega (arith, h, hi, cell.heap) in
        ap (λ (z : ℕ). run subs 20 (at_row subs g ss place c other ws gl word (2 ^ (q + i)) (dots_of i) (2 ^ (7 * z + 7)) 0 (suc m))) h
        ∙ right_column_ends subs g ss place c other ws gl word (2 ^ (q + i)) (dots_of i) (glyph + (i + 1) / 2) (2 ^ (q + (i + 1))) m m to_glyph to_pixel (one_less m hm)
        ∙ ap (λ (z : ℕ). Some (at_column subs g ss place c other ws (glyph + (i + 1) / 2) word (2 ^ (q + (i + 1))) (dots_of i) (2 ^ (7 * z)) m)) (let e : 0 ≡ (i + 1) % 2 = omega (arith, h) in e)

    column_ends : (n : ℕ) × (n ≤ 20) × (run subs n (row_at i (suc m) ws 7 0) ≡ Some (column_of ws (i + 1) word (dots_of i) m))
    column_ends =
        ⊎_elim (λ (h : i % 2 ≡ 0). (14, omega arith, left_ends h)) (λ (h : i % 2 ≡ 1). (20, omega arith, right_ends h))
        (two (i % 2) (omega arith))

  one_column : (ws : List ℕ) (i m word dots : ℕ) → i + suc m ≡ 5 → IsDrawnTo first top q glyph ws i 0
      → (n : ℕ) × (n ≤ 214) × (ws' : List ℕ) × IsDrawnTo first top q glyph ws' (i + 1) 0 × (run subs n (column_of ws i word dots (suc m)) ≡ Some (column_of ws' (i + 1) (top + 32 * 8) (dots_of i) m))
  one_column ws i m word dots e was =
      let hi : i < 5 = omega (arith, e) in
      let gl = glyph + i / 2 in
      let reached = here gl (omega (arith, cell.heap)) (omega (arith, cell.heap, hi)) in
      let begun = column_begins subs g ss place c other ws gl word (2 ^ (q + i)) dots (2 ^ (7 * (i % 2))) m top (top + 32) reached at (let s : word_add top 32 ≡ top + 32 = omega (arith, cell.high) in s) in
      let same : word_at ws gl ≡ dots_of i = was.keeps.heap gl (omega (arith, cell.heap)) (omega (arith, cell.heap, hi)) in
      let begins : run subs 12 (column_of ws i word dots (suc m)) ≡ Some (row_at i (suc m) ws 0 7) =
      begun
      ∙ ap (λ (z : ℕ). Some (at_row subs g ss place c other ws gl (top + 32) (2 ^ (q + i)) z (2 ^ (7 * (i % 2))) 7 (suc m))) same
      ∙ ap (λ (z : ℕ). Some (at_row subs g ss place c other ws gl z (2 ^ (q + i)) (dots_of i) (2 ^ (7 * (i % 2))) 7 (suc m))) (let s : top + 32 ≡ top + 32 * (0 + 1) = omega arith in s)
      ∙ ap (λ (z : ℕ). Some (at_row subs g ss place c other ws gl (top + 32 * (0 + 1)) (2 ^ (q + i)) (dots_of i) (2 ^ z) 7 (suc m))) (let s : 7 * (i % 2) ≡ 7 * (i % 2) + 0 = omega arith in s) in
      let (n, few, ws', drawn, ran) = rows_drawn i hi (suc m) 7 0 ws refl was in
      let (k, short, ends) = column_ends ws' i m hi (omega (arith, e)) in
      (12 + (n + k), omega (arith, few, short), ws', column_drawn first top q glyph cell ws' i drawn, run_then subs 12 (n + k) _ _ _ begins (run_then subs n k _ _ _ ran ends))

  columns_drawn : (m i : ℕ) (ws : List ℕ) (word dots : ℕ) → i + m ≡ 5 → IsDrawnTo first top q glyph ws i 0
      → (n : ℕ) × (n ≤ 214 * m) × (ws' : List ℕ) × IsDrawnTo first top q glyph ws' 5 0 × (word' : ℕ) × (dots' : ℕ) × (run subs n (column_of ws i word dots m) ≡ Some (column_of ws' 5 word' dots' 0))
  columns_drawn zero i ws word dots e was =
      let f : i ≡ 5 = omega (arith, e) in
      (0, omega arith, ws, subst (λ z. IsDrawnTo first top q glyph ws z 0) f was, word, dots, ap (λ (z : ℕ). Some (column_of ws z word dots 0)) f)
  columns_drawn (suc m) i ws word dots e was =
      let (n, few, ws', next, ran) = one_column ws i m word dots e was in
      let (n', few', ws'', done, word', dots', rest) = columns_drawn m (i + 1) ws' (top + 32 * 8) (dots_of i) (omega (arith, e)) next in
      (n + n', omega (arith, few, few'), ws'', done, word', dots', run_then subs n n' _ _ _ ran rest)

  -- from the clearing on
  pub cell_drawn : length first ≡ 22528
      → (n : ℕ) × (n ≤ 1280) × (ws : List ℕ) × IsDrawnTo first top q glyph ws 5 0 × (ls : List ℕ)
      × (run subs n (at_clear subs g ss place c glyph other (2 ^ q) first top 11) ≡ Some (at_text subs g ss place c ws (returns_value 32 0 End) ls))
  cell_drawn long =
      let (ws, clear, ran) = clear_rows (2 ^ q) 11 0 first refl (none_cleared first top q glyph cell long) in
      let (n, few, ws', done, word, dots, drawn) = columns_drawn 5 0 ws (top + 32 * 11) 0 refl (none_drawn first top q glyph cell ws clear) in
      let start : at_clear subs g ss place c glyph other (2 ^ q) first top 11 ≡ at_clear subs g ss place c glyph other (2 ^ q) first (top + 32 * 0) 11 =
      ap (λ (z : ℕ). at_clear subs g ss place c glyph other (2 ^ q) first z 11) (let s : top ≡ top + 32 * 0 = omega arith in s) in
      let middle : run subs 6 (at_clear subs g ss place c glyph other (2 ^ q) ws (top + 32 * 11) 0) ≡ Some (column_of ws 0 (top + 32 * 11) 0 5) =
      all_clear subs g ss place c glyph other (2 ^ q) ws (top + 32 * 11)
      ∙ ap (λ (z : ℕ). Some (at_column subs g ss place c other ws z (top + 32 * 11) (2 ^ q) 0 1 5)) (let s : glyph ≡ glyph + 0 / 2 = omega arith in s)
      ∙ ap (λ (z : ℕ). Some (at_column subs g ss place c other ws (glyph + 0 / 2) (top + 32 * 11) (2 ^ z) 0 1 5)) (let s : q ≡ q + 0 = omega arith in s) in
      let last = all_drawn subs g ss place c other ws' (glyph + 5 / 2) word (2 ^ (q + 5)) dots (2 ^ (7 * (5 % 2))) in (
        198 + (6 + (n + 3)),
        omega (arith, few),
        ws',
        done,
        locals subs g ss place c (glyph + 5 / 2) word other (2 ^ (q + 5)) dots (2 ^ (7 * (5 % 2))) 0 0,
        ap (run subs (198 + (6 + (n + 3)))) start ∙ run_then subs 198 (6 + (n + 3)) _ _ _ ran (run_then subs 6 (n + 3) _ _ _ middle (run_then subs n 3 _ _ _ drawn last)),
      )

-- ---- the whole, from the code on

module _ (subs : List Subroutine) (g : ℕ) (ss : List ℕ) (font place right : ℕ) (first : List ℕ) (long : length first ≡ 22528) (top q glyph : ℕ) (cell : IsCell top q glyph) (at : slice_index ss place ≡ top) where
  -- the half of the word that the static names
  abbrev IsHalf : ℕ → Type 0
  IsHalf v = ((v ≡ 0) × (q ≡ 0)) ⊎ ((m : ℕ) × (v ≡ suc m) × (q ≡ 8))

  abbrev zeros : List ℕ
  zeros = 0 ∷ 0 ∷ 0 ∷ 0 ∷ 0 ∷ 0 ∷ 0 ∷ 0 ∷ []

  abbrev Draws : ℕ → Call → ℕ → Type 0
  Draws most d c =
      (n : ℕ) × (n ≤ most) × (ws : List ℕ) × IsDrawnTo first top q glyph ws 5 0 × (ls : List ℕ) × (run subs n d ≡ Some (in_call g 0 ss ws (returns_value 32 0 End) (c ∷ []) ls))

  module _ (c : ℕ) (small : c < 128) (f : ℕ) (font_at : slice_index ss font ≡ f) (is_glyph : f + 3 * c ≡ glyph) where
    sum_one : word_add f c ≡ f + c
    sum_one = omega (arith, is_glyph, cell.heap)

    sum_two : word_add (f + c) c ≡ f + c + c
    sum_two = omega (arith, is_glyph, cell.heap)

    sum_three : word_add (f + c + c) c ≡ glyph
    sum_three = omega (arith, is_glyph, cell.heap)

    glyph_drawn : IsHalf (slice_index ss right) → Draws 1303 (in_call g 0 ss first (glyph_text font place right) (c ∷ []) zeros) c
    glyph_drawn (inl h) =
        let mask : IsMask q 65280 = subst (λ z. IsMask z 65280) (sym h.1) left_mask in
        let (n, few, ws, done, ls, ran) = cell_drawn subs g ss place c first top q glyph cell at 65280 mask long in
        let begins =
        left_half subs g ss place c first font right f (f + c) (f + c + c) glyph top font_at sum_one sum_two sum_three h.0 at
        ∙ ap (λ (z : ℕ). Some (at_clear subs g ss place c glyph 65280 (2 ^ z) first top 11)) (sym h.1) in
        (19 + n, omega (arith, few), ws, done, ls, run_then subs 19 n _ _ _ begins ran)
    glyph_drawn (inr h) =
        let mask : IsMask q 255 = subst (λ z. IsMask z 255) (sym h.2) right_mask in
        let (n, few, ws, done, ls, ran) = cell_drawn subs g ss place c first top q glyph cell at 255 mask long in
        let begins =
        right_half subs g ss place c first font right f (f + c) (f + c + c) glyph top h.0 font_at sum_one sum_two sum_three h.1 at
        ∙ ap (λ (z : ℕ). Some (at_clear subs g ss place c glyph 255 (2 ^ z) first top 11)) (sym h.2) in
        (23 + n, omega (arith, few), ws, done, ls, run_then subs 23 n _ _ _ begins ran)

-- which code is shown

pub record IsShown (c : ℕ) (v : ℕ) : Type 0 where
  pub tests : ((word_lt c 32 ≡ 0) × (word_gt c 126 ≡ 0) × (v ≡ c)) ⊎ ((m : ℕ) × (bit_or (word_lt c 32) (word_gt c 126) ≡ suc m) × (v ≡ 127))
  pub small : v < 128

pub shown : (c : ℕ) → c < 65536 → IsShown c (shown_code c)
shown c h =
    ⊎_elim
    (λ (l : c < 32).
    let t : nat_lt c 32 ≡ true = grind (arith, nat_tests) in
    let v : shown_code c ≡ 127 = ap (λ b. if b then 127 else (if nat_lt 126 c then 127 else c)) t in
    none c h v (one_more _ (omega (arith, le_or_l (word_lt c 32) (word_gt c 126), less c 32 l (omega arith)))))
    (λ (g : 32 ≤ c).
    let t : nat_lt c 32 ≡ false = grind (arith, nat_tests) in
    ⊎_elim
    (λ (l : 126 < c).
    let u : nat_lt 126 c ≡ true = grind (arith, nat_tests) in
    let v : shown_code c ≡ 127 = ap (λ b. if b then 127 else (if nat_lt 126 c then 127 else c)) t ∙ ap (λ b. if b then 127 else c) u in
    none c h v
    (⊎_elim
    (λ (s : c < 32768). one_more _ (omega (arith, le_or_r (word_lt c 32) (word_gt c 126), less 126 c l s)))
    (λ (n : 32768 ≤ c). one_more _ (omega (arith, le_or_l (word_lt c 32) (word_gt c 126), negative_below c 32 n (omega arith))))
    (cases_lt c 32768)))
    (λ (k : c ≤ 126).
    let u : nat_lt 126 c ≡ false = grind (arith, nat_tests) in
    let v : shown_code c ≡ c = ap (λ b. if b then 127 else (if nat_lt 126 c then 127 else c)) t ∙ ap (λ b. if b then 127 else c) u in
    record { tests = inl (not_less c 32 g (omega (arith, h, k)), not_less 126 c k (omega arith), v); small = omega (arith, v, k) })
    (cases_lt 126 c))
    (cases_lt c 32)
  where
    none : (c : ℕ) → c < 65536 → shown_code c ≡ 127 → (m : ℕ) × (bit_or (word_lt c 32) (word_gt c 126) ≡ suc m) → IsShown c (shown_code c)
    none c h v m = record { tests = inr (m.0, m.1, v); small = omega (arith, v) }

module _ (subs : List Subroutine) (g : ℕ) (ss : List ℕ) (font place right : ℕ) (first : List ℕ) (long : length first ≡ 22528) (top q glyph : ℕ) (cell : IsCell top q glyph) (at : slice_index ss place ≡ top) (half : IsHalf subs g ss font place right first long top q glyph cell at (slice_index ss right)) where
  pub drawn : (c : ℕ) → c < 65536 → (f : ℕ) → slice_index ss font ≡ f → f + 3 * shown_code c ≡ glyph
      → (n : ℕ) × (n ≤ 1313) × (ws : List ℕ) × IsDrawnTo first top q glyph ws 5 0 × (c' : ℕ) × (ls : List ℕ)
      × (run subs n (in_call g 0 ss first (draw_body font place right) (c ∷ []) (0 ∷ 0 ∷ 0 ∷ 0 ∷ 0 ∷ 0 ∷ 0 ∷ 0 ∷ [])) ≡ Some (in_call g 0 ss ws (returns_value 32 0 End) (c' ∷ []) ls))
  drawn c h f font_at is_glyph =
      let s = shown c h in
      ⊎_elim
      (λ (t : (word_lt c 32 ≡ 0) × (word_gt c 126 ≡ 0) × (shown_code c ≡ c)).
      let e = t.2 in
      let (n, few, ws, done, ls, ran) = glyph_drawn subs g ss font place right first long top q glyph cell at c (omega (arith, s.small, e)) f font_at (ap (λ z. f + 3 * z) (sym e) ∙ is_glyph) half in
      (8 + n, omega (arith, few), ws, done, c, ls, run_then subs 8 n _ _ _ (has_glyph subs g ss first place font right c t.0 t.1) ran))
      (λ (t : (m : ℕ) × (bit_or (word_lt c 32) (word_gt c 126) ≡ suc m) × (shown_code c ≡ 127)).
      let (n, few, ws, done, ls, ran) = glyph_drawn subs g ss font place right first long top q glyph cell at 127 (omega arith) f font_at (ap (λ z. f + 3 * z) (sym t.2) ∙ is_glyph) half in
      (10 + n, omega (arith, few), ws, done, 127, ls, run_then subs 10 n _ _ _ (has_none subs g ss first place font right c (word_lt c 32) (word_gt c 126) t.0 refl refl t.1) ran))
      s.tests

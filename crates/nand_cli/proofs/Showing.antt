-- What is shown of words is given by those of heap and screen.
use Rattle.std.proofs.Common.{◌≡◌, ◌≤◌, ◌<◌, ◌+◌, ◌-◌, ◌*◌, ◌/◌, ◌%◌, ◌++◌, [], ◌∷◌, ℕ, zero, suc, Bool, false, List, map, refl, ◌∙◌, ap, arith}
use Rattle.std.specs.List.{flat_map, range_with_len}
use Rattle.word16.specs.Memory.{heap, keyboard}
use Rattle.machine_io.specs.Report.{shown_text}
use Rattle.machine_io.specs.Screen.{pixel, row_text, screen_text, shade}
use Rattle.machine_io.specs.Words.{shown_line, words_text}
use Rattle.machine_io.specs.declared.report.Show.{Show}
use Rattle.machine_io.specs.declared.report.Show.TheVariants as shows

-- ---- numbers in order

each_same : (f g : ℕ → List ℕ) (a n : ℕ) → ((k : ℕ) → a ≤ k → k < a + n → f k ≡ g k) → flat_map f (range_with_len a n) ≡ flat_map g (range_with_len a n)
each_same f g a zero h = refl
each_same f g a (suc n) h =
    ap (λ l. l ++ flat_map f (range_with_len (a + 1) n)) (h a (omega arith) (omega arith))
    ∙ ap (λ l. g a ++ l) (each_same f g (a + 1) n (λ k from_on below. h k (omega arith) (omega arith)))

map_same : (f g : ℕ → ℕ) (a n : ℕ) → ((k : ℕ) → a ≤ k → k < a + n → f k ≡ g k) → map f (range_with_len a n) ≡ map g (range_with_len a n)
map_same f g a zero h = refl
map_same f g a (suc n) h =
    ap (λ x. x ∷ map f (range_with_len (a + 1) n)) (h a (omega arith) (omega arith))
    ∙ ap (λ l. g a ∷ l) (map_same f g (a + 1) n (λ k from_on below. h k (omega arith) (omega arith)))

-- ---- the words of two machines that have the same

module _ (word word' : ℕ → ℕ) where
  words_same : (zeros : Bool) (from to : ℕ) → ((a : ℕ) → from ≤ a → a ≤ to → word a ≡ word' a) → words_text word zeros from to ≡ words_text word' zeros from to
  unfolding words_text
  words_same zeros from to h =
      each_same (λ a. shown_line zeros a (word a)) (λ a. shown_line zeros a (word' a)) from (to + 1 - from)
      (λ a from_on below. ap (shown_line zeros a) (h a from_on (omega arith)))

  module _ (same : (a : ℕ) → heap ≤ a → a < keyboard → word a ≡ word' a) where
    pixels_same : (row n : ℕ) → row < 256 → n ≤ 512 → map (pixel word row) (range_with_len 0 n) ++ 10 ∷ [] ≡ map (pixel word' row) (range_with_len 0 n) ++ 10 ∷ []
    pixels_same row n low wide =
        ap (λ l. l ++ 10 ∷ []) (map_same (pixel word row) (pixel word' row) 0 n
        (λ k from_on below. ap (λ w. shade w (k % 16)) (same (16384 + 32 * row + k / 16) (omega arith) (omega arith))))

    row_same : (row : ℕ) → row < 256 → row_text word row ≡ row_text word' row
    unfolding row_text
    row_same row low = pixels_same row 512 low (omega arith)

    rows_same : (n : ℕ) → n ≤ 256 → flat_map (row_text word) (range_with_len 0 n) ≡ flat_map (row_text word') (range_with_len 0 n)
    rows_same n few = each_same (row_text word) (row_text word') 0 n (λ k from_on below. row_same k (omega arith))

    screen_same : screen_text word ≡ screen_text word'
    unfolding screen_text
    screen_same = rows_same 256 (omega arith)

    pub shown_same : (show : Show) → shown_text show word ≡ shown_text show word'
    shown_same shows.Nothing = refl
    shown_same shows.Heap = words_same false 2048 16383 (λ a from_on up_to. same a from_on (omega arith))
    shown_same shows.Screen = screen_same

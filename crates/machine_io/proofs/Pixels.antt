-- A row of pixels, word by word.
use Rattle.std.proofs.Common.{◌≡◌, ◌<◌, ◌+◌, ◌-◌, ◌*◌, ◌/◌, ◌%◌, ◌++◌, [], ◌∷◌, ℕ, zero, suc, List, map, length, take, slice_set, refl, sym, ◌∙◌, ap, append_assoc, arith}
use Rattle.std.proofs.lemmas.List.{map-append, take_more_set, take_all}
use Rattle.std.proofs.lemmas.List.FromFn.{map-range_with_len_more}
use Rattle.std.specs.List.{flat_map, range_with_len}
use Rattle.machine_io.specs.Screen.{shade, pixel, pixels_of, row_text, screen_text}
use Rattle.machine_io.proofs.Counting.{range-append, each-append, each-more}

-- two stretches of numbers give the same, where each number does
same_map : (f g : ℕ → ℕ) (a b n : ℕ) → ((j : ℕ) → j < n → f (a + j) ≡ g (b + j)) → map f (range_with_len a n) ≡ map g (range_with_len b n)
same_map f g a b zero h = refl
same_map f g a b (suc n) h =
    let first : f a ≡ g b = ap f (let e : a ≡ a + 0 = omega arith in e) ∙ h 0 (omega arith) ∙ ap g (let e : b + 0 ≡ b = omega arith in e) in
    let later = same_map f g (a + 1) (b + 1) n
    (λ j lt. ap f (let e : (a + 1) + j ≡ a + (j + 1) = omega arith in e) ∙ h (j + 1) (omega arith) ∙ ap g (let e : b + (j + 1) ≡ (b + 1) + j = omega arith in e)) in
    ap (λ x. x ∷ map f (range_with_len (a + 1) n)) first ∙ ap (λ l. g b ∷ l) later

-- the pixels of the first n words of a row
unfoldable pub pixels_to : (ℕ → ℕ) → ℕ → ℕ → List ℕ
pixels_to word row n = map (pixel word row) (range_with_len 0 (16 * n))

pub pixels-none : (word : ℕ → ℕ) (row : ℕ) → pixels_to word row 0 ≡ []
unfolding pixels_to
pixels-none word row = refl

-- those of the next word
next_word : (word : ℕ → ℕ) (row n : ℕ) → map (pixel word row) (range_with_len (16 * n) 16) ≡ pixels_of (word (16384 + 32 * row + n))
unfolding pixels_of
next_word word row n = same_map (pixel word row) (shade (word (16384 + 32 * row + n))) (16 * n) 0 16 (λ j lt.
    let place : (16 * n + j) / 16 ≡ n = omega arith in
    let bit : (16 * n + j) % 16 ≡ 0 + j = omega arith in
    ap (λ p. shade (word (16384 + 32 * row + p)) ((16 * n + j) % 16)) place ∙ ap (shade (word (16384 + 32 * row + n))) bit)

pub pixels-more : (word : ℕ → ℕ) (row n : ℕ) → pixels_to word row (n + 1) ≡ pixels_to word row n ++ pixels_of (word (16384 + 32 * row + n))
unfolding pixels_to
pixels-more word row n =
    let e : 16 * (n + 1) ≡ 16 * n + 16 = omega arith in
    ap (λ k. map (pixel word row) (range_with_len 0 k)) e ∙ ap (map (pixel word row)) (range-append 0 (16 * n) 16)
    ∙ map-append (pixel word row) (range_with_len 0 (16 * n)) (range_with_len (0 + 16 * n) 16)
    ∙ ap (λ k. map (pixel word row) (range_with_len 0 (16 * n)) ++ map (pixel word row) (range_with_len k 16)) (let f : 0 + 16 * n ≡ 16 * n = omega arith in f)
    ∙ ap (λ z. map (pixel word row) (range_with_len 0 (16 * n)) ++ z) (next_word word row n)

-- the whole row
pub row-all : (word : ℕ → ℕ) (row n : ℕ) → n ≡ 32 → row_text word row ≡ pixels_to word row n ++ 10 ∷ []
unfolding pixels_to row_text
row-all word row n e =
    let f : 512 ≡ 16 * n = omega arith in
    ap (λ k. map (pixel word row) (range_with_len 0 k) ++ 10 ∷ []) f

-- the first words of a row are a front part of it
pub row-whole : (word : ℕ → ℕ) (row n : ℕ) → n < 32
    → (rest : List ℕ) × (row_text word row ≡ (pixels_to word row n ++ pixels_of (word (16384 + 32 * row + n))) ++ rest)
unfolding pixels_to row_text
row-whole word row n lt =
    let e : 512 ≡ 16 * (n + 1) + (496 - 16 * n) = omega arith in
    let rest = map (pixel word row) (range_with_len (0 + 16 * (n + 1)) (496 - 16 * n)) in (
      rest ++ 10 ∷ [],
      ap (λ k. map (pixel word row) (range_with_len 0 k) ++ 10 ∷ []) e
          ∙ ap (λ l. map (pixel word row) l ++ 10 ∷ []) (range-append 0 (16 * (n + 1)) (496 - 16 * n))
          ∙ ap (λ z. z ++ 10 ∷ []) (map-append (pixel word row) (range_with_len 0 (16 * (n + 1))) (range_with_len (0 + 16 * (n + 1)) (496 - 16 * n)))
          ∙ append_assoc (map (pixel word row) (range_with_len 0 (16 * (n + 1)))) rest (10 ∷ [])
          ∙ ap (λ z. z ++ (rest ++ 10 ∷ [])) (pixels-more word row n),
    )

-- the first n rows
unfoldable pub rows_to : (ℕ → ℕ) → ℕ → List ℕ
rows_to word n = flat_map (row_text word) (range_with_len 0 n)

pub rows-none : (word : ℕ → ℕ) → rows_to word 0 ≡ []
unfolding rows_to
rows-none word = refl

pub rows-more : (word : ℕ → ℕ) (n : ℕ) → rows_to word (n + 1) ≡ rows_to word n ++ row_text word n
unfolding rows_to
rows-more word n = each-more (row_text word) 0 n n (omega arith)

pub screen-all : (word : ℕ → ℕ) (n : ℕ) → n ≡ 256 → rows_to word n ≡ screen_text word
unfolding rows_to screen_text
screen-all word n e = ap (λ k. flat_map (row_text word) (range_with_len 0 k)) e

pub screen-whole : (word : ℕ → ℕ) (n : ℕ) → n < 256 → (rest : List ℕ) × (screen_text word ≡ (rows_to word n ++ row_text word n) ++ rest)
unfolding rows_to screen_text
screen-whole word n lt =
    let e : 256 ≡ (n + 1) + (255 - n) = omega arith in
    let rest = flat_map (row_text word) (range_with_len (0 + (n + 1)) (255 - n)) in (
      rest,
      ap (λ k. flat_map (row_text word) (range_with_len 0 k)) e ∙ each-append (row_text word) 0 (n + 1) (255 - n) ∙ ap (λ z. z ++ rest) (rows-more word n),
    )

-- one more pixel is written
pub shown-more : (w bit mark : ℕ) (xs : List ℕ) → bit < length xs → take bit xs ≡ map (shade w) (range_with_len 0 bit) → mark ≡ shade w bit
    → take (bit + 1) (slice_set xs bit mark) ≡ map (shade w) (range_with_len 0 (bit + 1))
shown-more w bit mark xs lt e f =
    take_more_set xs bit mark lt ∙ ap (λ l. l ++ mark ∷ []) e ∙ ap (λ p. map (shade w) (range_with_len 0 bit) ++ p ∷ []) f
    ∙ sym (map-range_with_len_more (shade w) 0 bit bit (omega arith))

pub shown-all : (w bit : ℕ) (xs : List ℕ) → length xs ≡ 16 → bit ≡ 16 → take bit xs ≡ map (shade w) (range_with_len 0 bit) → xs ≡ pixels_of w
unfolding pixels_of
shown-all w bit xs long end e = sym (take_all bit xs (omega arith)) ∙ e ∙ ap (λ n. map (shade w) (range_with_len 0 n)) end

-- Words laid one after the other, and the shapes that those of the font have.
use Rattle.std.proofs.Common.{◌≡◌, ◌⊎◌, inl, inr, ⊎_elim, ℕ, zero, suc, ◌+◌, ◌-◌, ◌*◌, ◌/◌, ◌%◌, ◌<◌, ◌≤◌, Bool, true, false, nat_eq, List, [], ◌∷◌, ◌++◌, length, get_or, refl, ap, ◌∙◌, arith}
use Rattle.std.specs.Prelude.{slice_index, slice_set, if◌then◌else◌}
use Rattle.std.proofs.lemmas.Bool.{cases_lt}
use Rattle.std.proofs.lemmas.Bool.Decides.{nat_tests}
use Rattle.std.proofs.lemmas.List.{get_or-set_same, get_or-set_other, length-set}
use Rattle.os_laws.specs.Heap.{word_at}
use Rattle.os_laws.specs.Numbers.{bit}
use Rattle.os_functions.specs.Font.{font_lines, font_dot}
use Rattle.os_functions.specs.StartLaws.{HasShapes}
use Rattle.os_functions.proofs.StartTexts.{all_words, font_table}
use Rattle.os_functions.proofs.StartRuns.{laid}

-- ---- words laid

pub laid_length : (vs ws : List ℕ) (i : ℕ) → length (laid ws i vs) ≡ length ws
laid_length [] ws i = refl
laid_length (v ∷ vs) ws i = laid_length vs (slice_set ws i v) (i + 1) ∙ length-set ws i v

pub laid_other : (vs ws : List ℕ) (i j : ℕ) → (j < i) ⊎ (i + length vs ≤ j) → slice_index (laid ws i vs) j ≡ slice_index ws j
laid_other [] ws i j o = refl
laid_other (v ∷ vs) ws i j o =
    laid_other vs (slice_set ws i v) (i + 1) j (⊎_elim (λ (l : j < i). inl (omega (arith, l))) (λ (g : i + length (v ∷ vs) ≤ j). inr (omega (arith, g))) o)
    ∙ get_or-set_other ws i j v 0 (λ e. ⊎_elim (λ (l : j < i). omega (arith, l, e)) (λ (g : i + length (v ∷ vs) ≤ j). omega (arith, g, e)) o)

pub laid_here : (vs ws : List ℕ) (i j : ℕ) → j < length vs → i + length vs ≤ length ws → slice_index (laid ws i vs) (i + j) ≡ slice_index vs j
laid_here [] ws i j h room = absurd (omega (arith, h))
laid_here (v ∷ vs) ws i zero h room =
    laid_other vs (slice_set ws i v) (i + 1) (i + 0) (inl (omega arith)) ∙ ap (slice_index (slice_set ws i v)) (let e : i + 0 ≡ i = omega arith in e) ∙ get_or-set_same ws i v 0 (omega (arith, room))
laid_here (v ∷ vs) ws i (suc j) h room =
    ap (slice_index (laid (slice_set ws i v) (i + 1) vs)) (let e : i + suc j ≡ i + 1 + j = omega arith in e)
    ∙ laid_here vs (slice_set ws i v) (i + 1) j (omega (arith, h)) (omega (arith, room, length-set ws i v))

pub laid_join : (xs ys ws : List ℕ) (i : ℕ) → laid ws i (xs ++ ys) ≡ laid (laid ws i xs) (i + length xs) ys
laid_join [] ys ws i = ap (λ z. laid ws z ys) (let e : i ≡ i + 0 = omega arith in e)
laid_join (x ∷ xs) ys ws i = laid_join xs ys (slice_set ws i x) (i + 1) ∙ ap (λ z. laid (laid (slice_set ws i x) (i + 1) xs) z ys) (let e : i + 1 + length xs ≡ i + length (x ∷ xs) = omega arith in e)

-- ---- the table against the shapes, by computation

abbrev all_below : ℕ → (ℕ → Bool) → Bool
all_below zero f = true
all_below (suc n) f = if f n then all_below n f else false

abbrev dot_in : List (List ℕ) → ℕ → ℕ → ℕ → ℕ
dot_in lines c i j = if nat_eq (slice_index (get_or lines (7 * ((c - 32) / 16) + j) []) (6 * (c % 16) + i)) 35 then 1 else 0

abbrev is_shape : List (List ℕ) → ℕ → List ℕ → Bool
is_shape lines c ws = all_below 5 (λ i. all_below 7 (λ j. nat_eq (bit (slice_index ws (i / 2)) (7 * (i % 2) + j)) (dot_in lines c i j)))

-- three words for each character from this one on
abbrev are_shapes : List (List ℕ) → ℕ → List ℕ → Bool
are_shapes lines c (a ∷ b ∷ d ∷ rest) = if is_shape lines c (a ∷ b ∷ d ∷ []) then are_shapes lines (c + 1) rest else false
are_shapes lines c _ = true

both : (a b : Bool) → (if a then b else false) ≡ true → (a ≡ true) × (b ≡ true)
both true b h = (refl, h)
both false b h = let e : false ≡ true = h in absurd (cc e)

each_below : (n : ℕ) (f : ℕ → Bool) → all_below n f ≡ true → (k : ℕ) → k < n → f k ≡ true
each_below zero f h k l = absurd (omega (arith, l))
each_below (suc n) f h k l =
    let b = both (f n) (all_below n f) h in
    ⊎_elim (λ (m : k < n). each_below n f b.1 k m) (λ (g : n ≤ k). ap f (let e : k ≡ n = omega (arith, g, l) in e) ∙ b.0) (cases_lt k n)

same_number : (a b : ℕ) → nat_eq a b ≡ true → a ≡ b
same_number a b h = grind (arith, nat_tests)

of_shape : (lines : List (List ℕ)) (c : ℕ) (ws : List ℕ) → is_shape lines c ws ≡ true → (i j : ℕ) → i < 5 → j < 7 → bit (slice_index ws (i / 2)) (7 * (i % 2) + j) ≡ dot_in lines c i j
of_shape lines c ws h i j hi hj =
    same_number (bit (slice_index ws (i / 2)) (7 * (i % 2) + j)) (dot_in lines c i j)
    (each_below 7 (λ m. nat_eq (bit (slice_index ws (i / 2)) (7 * (i % 2) + m)) (dot_in lines c i m)) (each_below 5 (λ k. all_below 7 (λ m. nat_eq (bit (slice_index ws (k / 2)) (7 * (k % 2) + m)) (dot_in lines c k m))) h i hi) j hj)

first_three : (a b d : ℕ) (rest : List ℕ) (k : ℕ) → k < 3 → slice_index (a ∷ b ∷ d ∷ rest) k ≡ slice_index (a ∷ b ∷ d ∷ []) k
first_three a b d rest zero h = refl
first_three a b d rest (suc zero) h = refl
first_three a b d rest (suc (suc zero)) h = refl
first_three a b d rest (suc (suc (suc k))) h = absurd (omega (arith, h))

shapes_in : (lines : List (List ℕ)) (m c : ℕ) (ws : List ℕ) → are_shapes lines c ws ≡ true → 3 * m + 3 ≤ length ws → (i j : ℕ) → i < 5 → j < 7
    → bit (slice_index ws (3 * m + i / 2)) (7 * (i % 2) + j) ≡ dot_in lines (c + m) i j
shapes_in lines m c [] h room i j hi hj = absurd (omega (arith, room))
shapes_in lines m c (a ∷ []) h room i j hi hj = absurd (omega (arith, room))
shapes_in lines m c (a ∷ b ∷ []) h room i j hi hj = absurd (omega (arith, room))
shapes_in lines zero c (a ∷ b ∷ d ∷ rest) h room i j hi hj =
    let first = both (is_shape lines c (a ∷ b ∷ d ∷ [])) (are_shapes lines (c + 1) rest) h in
    ap (λ k. bit (slice_index (a ∷ b ∷ d ∷ rest) k) (7 * (i % 2) + j)) (let e : 3 * 0 + i / 2 ≡ i / 2 = omega arith in e)
    ∙ ap (λ w. bit w (7 * (i % 2) + j)) (first_three a b d rest (i / 2) (omega (arith, hi)))
    ∙ of_shape lines c (a ∷ b ∷ d ∷ []) first.0 i j hi hj
    ∙ ap (λ k. dot_in lines k i j) (let e : c ≡ c + 0 = omega arith in e)
shapes_in lines (suc m) c (a ∷ b ∷ d ∷ rest) h room i j hi hj =
    let first = both (is_shape lines c (a ∷ b ∷ d ∷ [])) (are_shapes lines (c + 1) rest) h in
    ap (λ k. bit (slice_index (a ∷ b ∷ d ∷ rest) k) (7 * (i % 2) + j)) (let e : 3 * suc m + i / 2 ≡ suc (suc (suc (3 * m + i / 2))) = omega arith in e)
    ∙ shapes_in lines m (c + 1) rest first.1 (omega (arith, room)) i j hi hj
    ∙ ap (λ k. dot_in lines k i j) (let e : c + 1 + m ≡ c + suc m = omega arith in e)

abbrev pub font_words : List ℕ
font_words = all_words font_table

pub font_length : length font_words ≡ 288
font_length = refl

right_table : are_shapes font_lines 32 font_words ≡ true
right_table = refl

same_dot : (c i j : ℕ) → dot_in font_lines c i j ≡ font_dot c i j
same_dot c i j = refl

-- where the words of the font stand there are the shapes
pub shapes : (ws : List ℕ) → ((q : ℕ) → q < 288 → word_at ws (16096 + q) ≡ slice_index font_words q) → HasShapes ws 16000
shapes ws there c i j low high hi hj =
    let m = c - 32 in
    let q = 3 * m + i / 2 in
    let few : q < 288 = omega (arith, low, high, hi) in
    let place : 16000 + 3 * c + i / 2 ≡ 16096 + q = omega (arith, low) in
    ap (λ a. bit (word_at ws a) (7 * (i % 2) + j)) place
    ∙ ap (λ w. bit w (7 * (i % 2) + j)) (there q few)
    ∙ shapes_in font_lines m 32 font_words right_table (omega (arith, low, high, font_length)) i j hi hj
    ∙ ap (λ k. dot_in font_lines k i j) (let e : 32 + m ≡ c = omega (arith, low) in e)
    ∙ same_dot c i j

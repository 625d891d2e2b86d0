-- Lists of values, and of expressions over them.
use Rattle.std.proofs.Common.{◌≡◌, ℕ, zero, suc, ◌+◌, ◌-◌, ◌≤◌, List, [], ◌∷◌, ◌++◌, Some, None, length, take, drop, map, reverse, refl, sym, ap, ◌∙◌, subst, arith}
use Rattle.std.specs.Prelude.{slice_get, slice_index, slice_set}
use Rattle.std.proofs.lemmas.List.{map-append, reverse-append, length-reverse, append_assoc}
use Rattle.jack_machine.specs.Inner.Fronts.{with_last}

pub map-reverse : {A B : Type 0} (f : A → B) (xs : List A) → map f (reverse xs) ≡ reverse (map f xs)
map-reverse f [] = refl
map-reverse f (x ∷ xs) =
    ap (map f) (reverse-append (x ∷ []) xs) ∙ map-append f (reverse xs) (x ∷ []) ∙ ap (λ l. l ++ f x ∷ []) (map-reverse f xs)
    ∙ sym (reverse-append (f x ∷ []) (map f xs))

-- one more at the end is one more at the head of the reverse
pub reverse_more : {A : Type 0} (xs : List A) (x : A) → reverse (xs ++ x ∷ []) ≡ x ∷ reverse xs
reverse_more xs x = reverse-append xs (x ∷ [])

-- the reverse of a list with something in the middle
pub reverse_middle : {A : Type 0} (xs : List A) (y : A) (zs : List A) → reverse (xs ++ y ∷ zs) ≡ reverse zs ++ y ∷ reverse xs
reverse_middle xs y zs =
    reverse-append xs (y ∷ zs) ∙ ap (λ l. l ++ reverse xs) (reverse-append (y ∷ []) zs) ∙ append_assoc (reverse zs) (y ∷ []) (reverse xs)

-- what is taken of a list with something in the middle
pub take_through : {A : Type 0} (xs : List A) (y : A) (zs : List A) (n j : ℕ) → n ≡ length xs + suc j → take n (xs ++ y ∷ zs) ≡ xs ++ y ∷ take j zs
take_through [] y zs zero j e = absurd (omega (arith, e))
take_through [] y zs (suc n) j e = let same : n ≡ j = omega (arith, e) in ap (λ k. y ∷ take k zs) same
take_through (x ∷ xs) y zs zero j e = absurd (omega (arith, e))
take_through (x ∷ xs) y zs (suc n) j e = let less : n ≡ length xs + suc j = omega (arith, e) in ap (λ l. x ∷ l) (take_through xs y zs n j less)

pub drop_through : {A : Type 0} (xs : List A) (y : A) (zs : List A) (n j : ℕ) → n ≡ length xs + suc j → drop n (xs ++ y ∷ zs) ≡ drop j zs
drop_through [] y zs zero j e = absurd (omega (arith, e))
drop_through [] y zs (suc n) j e = let same : n ≡ j = omega (arith, e) in ap (λ k. drop k zs) same
drop_through (x ∷ xs) y zs zero j e = absurd (omega (arith, e))
drop_through (x ∷ xs) y zs (suc n) j e = let less : n ≡ length xs + suc j = omega (arith, e) in drop_through xs y zs n j less

-- the element that a look at a list finds, and those after it
pub drop_found : {A : Type 0} (xs : List A) (k : ℕ) (x : A) → slice_get xs k ≡ Some x → drop k xs ≡ x ∷ drop (suc k) xs
drop_found [] zero x e = cc
drop_found [] (suc k) x e = cc
drop_found (y ∷ ys) zero x e = let same : y ≡ x = cc in ap (λ z. z ∷ ys) same
drop_found (y ∷ ys) (suc k) x e = drop_found ys k x e

pub drop_none : {A : Type 0} (xs : List A) (k : ℕ) → slice_get xs k ≡ None → drop k xs ≡ []
drop_none [] zero e = refl
drop_none [] (suc k) e = refl
drop_none (y ∷ ys) zero e = cc
drop_none (y ∷ ys) (suc k) e = drop_none ys k e

-- the last ones of a list of numbers
pub last_one : (ws : List ℕ) → 1 ≤ length ws → drop (length ws - 1) ws ≡ slice_index ws (length ws - 1) ∷ []
last_one [] h = absurd (omega (arith, h))
last_one (x ∷ []) h = refl
last_one (x ∷ y ∷ ws) h =
    let less : 1 ≤ length (y ∷ ws) = omega arith in
    let next : length (x ∷ y ∷ ws) - 1 ≡ suc (length (y ∷ ws) - 1) = omega arith in
    subst (λ n. drop n (x ∷ y ∷ ws) ≡ slice_index (x ∷ y ∷ ws) n ∷ []) (sym next) (last_one (y ∷ ws) less)

pub last_two : (ws : List ℕ) → 2 ≤ length ws → drop (length ws - 2) ws ≡ slice_index ws (length ws - 2) ∷ slice_index ws (length ws - 1) ∷ []
last_two [] h = absurd (omega (arith, h))
last_two (x ∷ []) h = absurd (omega (arith, h))
last_two (x ∷ y ∷ []) h = refl
last_two (x ∷ y ∷ z ∷ ws) h =
    let less : 2 ≤ length (y ∷ z ∷ ws) = omega arith in
    let next : length (x ∷ y ∷ z ∷ ws) - 2 ≡ suc (length (y ∷ z ∷ ws) - 2) = omega arith in
    let last : length (x ∷ y ∷ z ∷ ws) - 1 ≡ suc (length (y ∷ z ∷ ws) - 1) = omega arith in
    subst (λ n. drop n (x ∷ y ∷ z ∷ ws) ≡ slice_index (x ∷ y ∷ z ∷ ws) n ∷ slice_index (x ∷ y ∷ z ∷ ws) (length (x ∷ y ∷ z ∷ ws) - 1) ∷ []) (sym next)
    (subst (λ n. drop (length (y ∷ z ∷ ws) - 2) (y ∷ z ∷ ws) ≡ slice_index (y ∷ z ∷ ws) (length (y ∷ z ∷ ws) - 2) ∷ slice_index (x ∷ y ∷ z ∷ ws) n ∷ []) (sym last) (last_two (y ∷ z ∷ ws) less))

-- a value in place of the last one
pub last_set : (ws : List ℕ) (w : ℕ) → slice_set ws (length ws - 1) w ≡ with_last w ws
last_set [] w = refl
last_set (x ∷ []) w = refl
last_set (x ∷ y ∷ ws) w =
    let next : length (x ∷ y ∷ ws) - 1 ≡ suc (length (y ∷ ws) - 1) = omega arith in
    ap (λ n. slice_set (x ∷ y ∷ ws) n w) next ∙ ap (λ l. x ∷ l) (last_set (y ∷ ws) w)

pub last_length : (ws : List ℕ) (w : ℕ) → length (with_last w ws) ≡ length ws
last_length [] w = refl
last_length (x ∷ []) w = refl
last_length (x ∷ y ∷ ws) w = ap suc (last_length (y ∷ ws) w)

-- the same from the other end
abbrev pub with_first : ℕ → List ℕ → List ℕ
with_first w [] = []
with_first w (x ∷ ws) = w ∷ ws

first_more : (w : ℕ) (xs ys : List ℕ) → 1 ≤ length xs → with_first w (xs ++ ys) ≡ with_first w xs ++ ys
first_more w [] ys h = absurd (omega (arith, h))
first_more w (x ∷ xs) ys h = refl

pub reverse_last : (ws : List ℕ) (w : ℕ) → reverse (with_last w ws) ≡ with_first w (reverse ws)
reverse_last [] w = refl
reverse_last (x ∷ []) w = refl
reverse_last (x ∷ y ∷ ws) w =
    let some : 1 ≤ length (reverse (y ∷ ws)) = omega (arith, length-reverse (y ∷ ws)) in
    reverse-append (x ∷ []) (with_last w (y ∷ ws)) ∙ ap (λ l. l ++ x ∷ []) (reverse_last (y ∷ ws) w) ∙ sym (first_more w (reverse (y ∷ ws)) (x ∷ []) some)
    ∙ ap (with_first w) (sym (reverse-append (x ∷ []) (y ∷ ws)))

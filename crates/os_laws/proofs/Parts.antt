-- Parts that do not overlap, in any order.
use Rattle.std.proofs.Common.{◌≡◌, inl, inr, ◌+◌, ◌≤◌, List, [], ◌∷◌, ◌++◌, map, refl, ap, arith}
use Rattle.std.specs.List.{AllByRecursion}
use Rattle.os_laws.specs.Heap.{Part, AreApart, NoneOverlap}

-- what holds of each element of two lists
pub all_join : {A : Type 0} (P : A → Type 0) (xs ys : List A) → AllByRecursion P xs → AllByRecursion P ys → AllByRecursion P (xs ++ ys)
all_join P [] ys h k = k
all_join P (x ∷ xs) ys h k = (h.0, all_join P xs ys h.1 k)

pub all_split : {A : Type 0} (P : A → Type 0) (xs ys : List A) → AllByRecursion P (xs ++ ys) → AllByRecursion P xs × AllByRecursion P ys
all_split P [] ys h = (tt, h)
all_split P (x ∷ xs) ys h = let r = all_split P xs ys h.1 in ((h.0, r.0), r.1)

pub all_map : {A : Type 0} (P Q : A → Type 0) (xs : List A) → ((x : A) → P x → Q x) → AllByRecursion P xs → AllByRecursion Q xs
all_map P Q [] f h = tt
all_map P Q (x ∷ xs) f h = (f x h.0, all_map P Q xs f h.1)

-- an element out of the middle, and into it
pub all_out : {A : Type 0} (P : A → Type 0) (xs ys : List A) (y : A) → AllByRecursion P (xs ++ y ∷ ys) → P y × AllByRecursion P (xs ++ ys)
all_out P xs ys y h = let r = all_split P xs (y ∷ ys) h in (r.1.0, all_join P xs ys r.0 r.1.1)

pub all_in : {A : Type 0} (P : A → Type 0) (xs ys : List A) (y : A) → P y → AllByRecursion P (xs ++ ys) → AllByRecursion P (xs ++ y ∷ ys)
all_in P xs ys y p h = let r = all_split P xs ys h in all_join P xs (y ∷ ys) r.0 (p, r.1)

pub apart_turned : (p q : Part) → AreApart p q → AreApart q p
apart_turned p q h = elim h [ inl a ↦ inr a | inr b ↦ inl b ]

-- a part out of the middle, and into it
pub overlap_out : (xs ys : List Part) (p : Part) → NoneOverlap (xs ++ p ∷ ys) → AllByRecursion (AreApart p) (xs ++ ys) × NoneOverlap (xs ++ ys)
overlap_out [] ys p h = h
overlap_out (x ∷ xs) ys p h =
    let r = overlap_out xs ys p h.1 in
    let o = all_out (AreApart x) xs ys p h.0 in
    ((apart_turned x p o.0, r.0), (o.1, r.1))

pub overlap_in : (xs ys : List Part) (p : Part) → AllByRecursion (AreApart p) (xs ++ ys) → NoneOverlap (xs ++ ys) → NoneOverlap (xs ++ p ∷ ys)
overlap_in [] ys p h k = (h, k)
overlap_in (x ∷ xs) ys p h k = (all_in (AreApart x) xs ys p (apart_turned p x h.0) k.0, overlap_in xs ys p h.1 k.1)

-- what is apart from a part is apart from each piece of it
pub apart_piece : (p piece q : Part) → p.begin ≤ piece.begin → piece.begin + piece.size ≤ p.begin + p.size → AreApart p q → AreApart piece q
apart_piece p piece q low high h = elim h [ inl a ↦ inl (omega (arith, low, high, a)) | inr b ↦ inr (omega (arith, low, high, b)) ]

-- lists that are maps
pub all_of_map : {A B : Type 0} (P : B → Type 0) (f : A → B) (xs : List A) → AllByRecursion P (map f xs) → AllByRecursion (λ x. P (f x)) xs
all_of_map P f [] h = tt
all_of_map P f (x ∷ xs) h = (h.0, all_of_map P f xs h.1)

pub all_both : {A : Type 0} (P Q R : A → Type 0) (xs : List A) → ((x : A) → P x → Q x → R x) → AllByRecursion P xs → AllByRecursion Q xs → AllByRecursion R xs
all_both P Q R [] f h k = tt
all_both P Q R (x ∷ xs) f h k = (f x h.0 k.0, all_both P Q R xs f h.1 k.1)

pub map_join : {A B : Type 0} (f : A → B) (xs ys : List A) → map f (xs ++ ys) ≡ map f xs ++ map f ys
map_join f [] ys = refl
map_join f (x ∷ xs) ys = ap (λ l. f x ∷ l) (map_join f xs ys)

-- parts after others
pub last_ones : (xs ys : List Part) → NoneOverlap (xs ++ ys) → NoneOverlap ys
last_ones [] ys h = h
last_ones (x ∷ xs) ys h = last_ones xs ys h.1

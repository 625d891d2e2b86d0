-- Facts about lists.
use Rattle.std.proofs.Common.{◌≡◌, ℕ, zero, suc, ◌+◌, ◌<◌, ◌≤◌, ◌⊎◌, inl, inr, List, [], ◌∷◌, ◌++◌, length, Some, refl, ap, ◌∙◌, arith}
use Rattle.std.specs.Prelude.{slice_get}

pub get_there : {X : Type 0} (xs : List X) (i : ℕ) → i < length xs → (x : X) × (slice_get xs i ≡ Some x)
get_there [] i h = absurd (omega (arith, h))
get_there (x ∷ xs) zero h = (x, refl)
get_there (x ∷ xs) (suc i) h = get_there xs i (omega (arith, h))

-- what is there stays where more comes after it
pub get_front : {X : Type 0} (xs ys : List X) (i : ℕ) (x : X) → slice_get xs i ≡ Some x → slice_get (xs ++ ys) i ≡ Some x
get_front [] ys i x h = absurd cc
get_front (z ∷ xs) ys zero x h = h
get_front (z ∷ xs) ys (suc i) x h = get_front xs ys i x h

pub get_behind : {X : Type 0} (old xs : List X) (k : ℕ) → slice_get (old ++ xs) (length old + k) ≡ slice_get xs k
get_behind [] xs k = ap (slice_get xs) (omega arith)
get_behind (z ∷ old) xs k = let e : length (z ∷ old) + k ≡ suc (length old + k) = omega arith in ap (slice_get (z ∷ (old ++ xs))) e ∙ get_behind old xs k

pub get_last : {X : Type 0} (xs : List X) (x : X) → slice_get (xs ++ x ∷ []) (length xs) ≡ Some x
get_last [] x = refl
get_last (z ∷ xs) x = get_last xs x

pub last_or : {X : Type 0} (xs : List X) (x y : X) (i : ℕ) → slice_get (xs ++ x ∷ []) i ≡ Some y → (slice_get xs i ≡ Some y) ⊎ ((i ≡ length xs) × (x ≡ y))
last_or [] x y zero e = inr (refl, cc)
last_or [] x y (suc i) e = absurd cc
last_or (z ∷ zs) x y zero e = inl e
last_or (z ∷ zs) x y (suc i) e = elim (last_or zs x y i e) [ inl h ↦ inl h | inr h ↦ inr (ap suc h.0, h.1) ]

pub assoc : {X : Type 0} (xs ys zs : List X) → (xs ++ ys) ++ zs ≡ xs ++ (ys ++ zs)
assoc [] ys zs = refl
assoc (x ∷ xs) ys zs = ap (λ t. x ∷ t) (assoc xs ys zs)

pub nil_after : {X : Type 0} (xs : List X) → xs ++ [] ≡ xs
nil_after [] = refl
nil_after (x ∷ xs) = ap (λ t. x ∷ t) (nil_after xs)

-- what is there of two lists is in one of them
pub record Behind {X : Type 0} (xs ys : List X) (i : ℕ) (x : X) : Type 0 where
  pub j : ℕ
  pub at : i ≡ length xs + j
  pub there : slice_get ys j ≡ Some x

pub split_get : {X : Type 0} (xs ys : List X) (i : ℕ) (x : X) → slice_get (xs ++ ys) i ≡ Some x → (slice_get xs i ≡ Some x) ⊎ Behind xs ys i x
split_get [] ys i x e = inr (record { j = i; at = omega arith; there = e })
split_get (z ∷ xs) ys zero x e = inl e
split_get (z ∷ xs) ys (suc i) x e = by (split_get xs ys i x e)
  where
    by : (slice_get xs i ≡ Some x) ⊎ Behind xs ys i x → (slice_get (z ∷ xs) (suc i) ≡ Some x) ⊎ Behind (z ∷ xs) ys (suc i) x
    by (inl h) = inl h
    by (inr b) = let at : i ≡ length xs + b.j = b.at in inr (record { j = b.j; at = omega (arith, at); there = b.there })

pub below_or : (n k : ℕ) → (n ≤ k) ⊎ (k < n)
below_or zero k = inl (omega arith)
below_or (suc n) zero = inr (omega arith)
below_or (suc n) (suc k) = elim (below_or n k) [ inl h ↦ inl (omega (arith, h)) | inr h ↦ inr (omega (arith, h)) ]

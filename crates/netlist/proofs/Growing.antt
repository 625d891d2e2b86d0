-- What stands where in a list that grows at its end.
use Rattle.std.proofs.Common.{◌≡◌, ◌≢◌, ℕ, zero, suc, ◌<◌, ◌⊎◌, inl, inr, List, [], ◌∷◌, ◌++◌, length, Some, refl, ap, arith}
use Rattle.std.specs.Prelude.{slice_get}

pub same_or_not : (a b : ℕ) → (a ≡ b) ⊎ (a ≢ b)
same_or_not a b = grind arith

-- what stands at a place after a push
pub get_push : {X : Type 0} (xs : List X) (y z : X) (k : ℕ) → slice_get (xs ++ y ∷ []) k ≡ Some z → ((slice_get xs k ≡ Some z) × (k < length xs)) ⊎ ((k ≡ length xs) × (y ≡ z))
get_push [] y z zero e = inr (refl, cc)
get_push [] y z (suc k) e = absurd cc
get_push (x ∷ xs) y z zero e = inl (e, omega arith)
get_push (x ∷ xs) y z (suc k) e = by (get_push xs y z k e)
  where
    by : ((slice_get xs k ≡ Some z) × (k < length xs)) ⊎ ((k ≡ length xs) × (y ≡ z)) → ((slice_get xs k ≡ Some z) × (suc k < length (x ∷ xs))) ⊎ ((suc k ≡ length (x ∷ xs)) × (y ≡ z))
    by (inl p) = let q = p.1 in inl (p.0, omega arith)
    by (inr p) = inr (ap suc p.0, p.1)

pub get_before : {X : Type 0} (xs : List X) (y z : X) (k : ℕ) → slice_get xs k ≡ Some z → slice_get (xs ++ y ∷ []) k ≡ Some z
get_before [] y z k e = absurd cc
get_before (x ∷ xs) y z zero e = e
get_before (x ∷ xs) y z (suc k) e = get_before xs y z k e

pub get_last : {X : Type 0} (xs : List X) (y : X) → slice_get (xs ++ y ∷ []) (length xs) ≡ Some y
get_last [] y = refl
get_last (x ∷ xs) y = get_last xs y

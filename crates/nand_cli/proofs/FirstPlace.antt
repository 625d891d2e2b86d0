-- One fault at most is the first by file, place and kind.
use Rattle.std.proofs.Common.{◌≡◌, ◌⊎◌, inl, inr, ℕ, List, [], ◌∷◌, sym, subst, arith}
use Rattle.jack_tree.specs.Syntax.{ClassFile}
use Rattle.jack_names.specs.Faults.{NameDiagnostic}
use Rattle.jack_names.specs.NameFaults.{IsWellNamed}
use Rattle.jack_names.specs.FaultOrder.{IsFirstByPlace, IsLess, place_order}

never_both : (xs ys : List ℕ) → IsLess xs ys → IsLess ys xs → ⊥
never_both [] ys h k = h
never_both (x ∷ xs) [] h k = h
never_both (x ∷ xs) (y ∷ ys) (inl h) (inl k) = omega (arith, h, k)
never_both (x ∷ xs) (y ∷ ys) (inl h) (inr (e, k)) = omega (arith, h, e)
never_both (x ∷ xs) (y ∷ ys) (inr (e, h)) (inl k) = omega (arith, e, k)
never_both (x ∷ xs) (y ∷ ys) (inr (e, h)) (inr (d, k)) = never_both xs ys h k

one_here : (own os : List ClassFile) (t u : NameDiagnostic) → IsFirstByPlace own os t → IsFirstByPlace own os u → t ≡ u
one_here own os t u f g = by (f.first g.at u g.fails) (g.first f.at t f.fails)
  where
    by : (u ≡ t) ⊎ IsLess (place_order f.at t) (place_order g.at u) → (t ≡ u) ⊎ IsLess (place_order g.at u) (place_order f.at t) → t ≡ u
    by (inl e) k = sym e
    by (inr h) (inl e) = e
    by (inr h) (inr k) = absurd (never_both (place_order f.at t) (place_order g.at u) h k)

module _ (own own' os os' : List ClassFile) (t : NameDiagnostic) (p : own ≡ own') (q : os ≡ os') (f : IsFirstByPlace own' os' t) where
  here : IsFirstByPlace own os t
  here = subst (λ (x : List ClassFile). IsFirstByPlace own x t) (sym q) (subst (λ (x : List ClassFile). IsFirstByPlace x os' t) (sym p) f)

  pub one_by_place : (u : NameDiagnostic) → IsFirstByPlace own os u → u ≡ t
  one_by_place u g = one_here own os u t g here

  -- and none where names are well
  pub none_by_place : IsWellNamed own os → ⊥
  none_by_place well = well here.at t here.fails

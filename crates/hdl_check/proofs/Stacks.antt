-- The top of a stack.
use Rattle.std.proofs.Common.{◌≡◌, ℕ, take, List, [], ◌∷◌, ◌++◌, length, sym, ap, ◌∙◌, arith, length-append}
use Rattle.std.proofs.lemmas.List.{same_from_push, take-append-le, take_all}
use Rattle.hdl_check.specs.Inner.Stacks.{from_bottom}

pub record HasTop {A : Type 0} (stack xs : List A) (x : A) : Type 0 where
  pub below : List A
  pub is : stack ≡ x ∷ below
  pub items : xs ≡ from_bottom below

pub top_of : {A : Type 0} (stack xs : List A) (x : A) → xs ++ x ∷ [] ≡ from_bottom stack → HasTop stack xs x
top_of [] xs x e = let n = ap length e in absurd (omega (arith, n, length-append xs (x ∷ [])))
top_of (y ∷ ys) xs x e =
    let s = same_from_push xs (from_bottom ys) x y e in
    record { below = ys; is = ap (λ z. z ∷ ys) (sym s.1); items = s.0 }

-- what a slice of a whole vector left there
pub written_back : {A : Type 0} (n : ℕ) (new rest : List A) → length new ≡ n → take n (new ++ rest) ≡ new
written_back n new rest e = take-append-le n new rest (omega (arith, e)) ∙ take_all n new (omega (arith, e))

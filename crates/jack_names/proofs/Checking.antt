-- The first fault of one list of uses after another.
use Rattle.std.proofs.Common.{◌≡◌, ℕ, zero, suc, ◌+◌, ◌<◌, List, [], ◌∷◌, ◌++◌, length, take, get_or, Option, Some, None, Result, Ok, Err, refl, sym, ap, subst, ◌∙◌, arith}
use Rattle.name_table.specs.Names.{first_of}
use Rattle.jack_names.specs.Faults.{NameDiagnostic, Checks}
use Rattle.jack_names.specs.Inner.Uses.{Use, all_uses}
use Rattle.jack_names.specs.Inner.Scopes.{Scope, use_fault, first_fault}
use Rattle.jack_names.specs.declared.fault.NameError.{NameError}
use Rattle.jack_names.specs.declared.fault.NameError.TheVariants as errors

pub in_first : (a b : Option NameDiagnostic) (e : NameError) → Checks a (Err e) → Checks (first_of a b) (Err e)
in_first a b errors.Memory h = tt
in_first None b (errors.Fault f) h = absurd cc
in_first (Some a) b (errors.Fault f) h = h

pub in_second : (a b : Option NameDiagnostic) (r : Result (Unit {0}) NameError) → Checks a (Ok tt) → Checks b r → Checks (first_of a b) r
in_second None b r h k = k
in_second (Some a) b r h k = absurd cc

pub as_fault : (a b : Option NameDiagnostic) (r : Result (Unit {0}) NameError) → a ≡ b → Checks a r → Checks b r
as_fault a b r e h = subst (λ (x : Option NameDiagnostic). Checks x r) e h

first_assoc : (a b c : Option NameDiagnostic) → first_of (first_of a b) c ≡ first_of a (first_of b c)
first_assoc None b c = refl
first_assoc (Some a) b c = refl

pub faults-append : (s : Scope) (xs ys : List Use) → first_fault s (xs ++ ys) ≡ first_of (first_fault s xs) (first_fault s ys)
faults-append s [] ys = refl
faults-append s (x ∷ xs) ys = ap (λ (o : Option NameDiagnostic). first_of (use_fault s x) o) (faults-append s xs ys) ∙ sym (first_assoc (use_fault s x) (first_fault s xs) (first_fault s ys))

first_none : (a : Option NameDiagnostic) → first_of a None ≡ a
first_none None = refl
first_none (Some a) = refl

-- one use alone
pub in_one : (s : Scope) (x : Use) (r : Result (Unit {0}) NameError) → Checks (use_fault s x) r → Checks (first_fault s (x ∷ [])) r
in_one s x r h = as_fault (use_fault s x) (first_fault s (x ∷ [])) r (sym (first_none (use_fault s x))) h

pub uses_first : (s : Scope) (xs ys : List Use) (e : NameError) → Checks (first_fault s xs) (Err e) → Checks (first_fault s (xs ++ ys)) (Err e)
uses_first s xs ys e h = as_fault (first_of (first_fault s xs) (first_fault s ys)) (first_fault s (xs ++ ys)) (Err e) (sym (faults-append s xs ys)) (in_first (first_fault s xs) (first_fault s ys) e h)

pub uses_second : (s : Scope) (xs ys : List Use) (r : Result (Unit {0}) NameError) → Checks (first_fault s xs) (Ok tt) → Checks (first_fault s ys) r → Checks (first_fault s (xs ++ ys)) r
uses_second s xs ys r h k = as_fault (first_of (first_fault s xs) (first_fault s ys)) (first_fault s (xs ++ ys)) r (sym (faults-append s xs ys)) (in_second (first_fault s xs) (first_fault s ys) r h k)

pub as_uses : (s : Scope) (xs ys : List Use) (r : Result (Unit {0}) NameError) → xs ≡ ys → Checks (first_fault s ys) r → Checks (first_fault s xs) r
as_uses s xs ys r e h = subst (λ (zs : List Use). Checks (first_fault s zs) r) (sym e) h

none_both : (a b : Option NameDiagnostic) → first_of a b ≡ None → (a ≡ None) × (b ≡ None)
none_both None b h = (refl, h)
none_both (Some a) b h = absurd cc

module _ {A : Type 0} (s : Scope) (uses : A → List Use) where
  -- up to one of the things
  pub in_each : (e : NameError) (xs : List A) (i : ℕ) (x : A) → i < length xs → x ≡ get_or xs i x → first_fault s (all_uses uses (take i xs)) ≡ None → Checks (first_fault s (uses x)) (Err e) → Checks (first_fault s (all_uses uses xs)) (Err e)
  in_each e [] i x h w k c = absurd (omega arith)
  in_each e (y ∷ ys) zero x h w k c = uses_first s (uses y) (all_uses uses ys) e (subst (λ (z : A). Checks (first_fault s (uses z)) (Err e)) w c)
  in_each e (y ∷ ys) (suc i) x h w k c =
      let both : first_of (first_fault s (uses y)) (first_fault s (all_uses uses (take i ys))) ≡ None = sym (faults-append s (uses y) (all_uses uses (take i ys))) ∙ k in
      let clear = none_both (first_fault s (uses y)) (first_fault s (all_uses uses (take i ys))) both in
      uses_second s (uses y) (all_uses uses ys) (Err e) clear.0 (in_each e ys i x (omega (arith, h)) w clear.1 c)

  clear_suc : (xs : List A) (i : ℕ) (x : A) → i < length xs → x ≡ get_or xs i x → first_fault s (all_uses uses (take i xs)) ≡ None → first_fault s (uses x) ≡ None → first_fault s (all_uses uses (take (suc i) xs)) ≡ None
  clear_suc [] i x h w k c = absurd (omega (arith, h))
  clear_suc (y ∷ ys) zero x h w k c = uses_second s (uses y) [] (Ok tt) (subst (λ (z : A). first_fault s (uses z) ≡ None) w c) refl
  clear_suc (y ∷ ys) (suc i) x h w k c =
      let both : first_of (first_fault s (uses y)) (first_fault s (all_uses uses (take i ys))) ≡ None = sym (faults-append s (uses y) (all_uses uses (take i ys))) ∙ k in
      let clear = none_both (first_fault s (uses y)) (first_fault s (all_uses uses (take i ys))) both in
      uses_second s (uses y) (all_uses uses (take (suc i) ys)) (Ok tt) clear.0 (clear_suc ys i x (omega (arith, h)) w clear.1 c)

  -- one thing more
  pub one_clear : (xs : List A) (i : ℕ) (x : A) → i < length xs → x ≡ get_or xs i x → first_fault s (all_uses uses (take i xs)) ≡ None → first_fault s (uses x) ≡ None → first_fault s (all_uses uses (take (i + 1) xs)) ≡ None
  one_clear xs i x h w k c = let on : i + 1 ≡ suc i = omega arith in subst (λ (n : ℕ). first_fault s (all_uses uses (take n xs)) ≡ None) (sym on) (clear_suc xs i x h w k c)

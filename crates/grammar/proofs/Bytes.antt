-- Bytes that are written out, and the tests that know them.
use Rattle.std.proofs.Common.{◌≡◌, ℕ, zero, suc, Bool, true, false, List, [], ◌∷◌, Contains, refl, sym, ◌∙◌, arith, ◌⊎◌, inl, inr, ⊎_elim, eqb-true}
use Rattle.std.specs.Prelude.{◌==◌, ◌||◌}
use Rattle.std.specs.List.{All}
use Rattle.std.proofs.lemmas.List.Elements.{All-weaker}
use Rattle.std.proofs.lemmas.Bool.{or_cases, or_left, or_right, eq-eqb, false_from_ne_true, true≢false}
use Rattle.scan_text.specs.Text.{is_digit}

-- t, or the byte is one of these: t || b == x || ..
abbrev pub after : Bool → List ℕ → ℕ → Bool
after t [] b = t
after t (c ∷ cs) b = after (t || b == c) cs b

pub after_first : (t : Bool) (cs : List ℕ) (b : ℕ) → t ≡ true → after t cs b ≡ true
after_first t [] b e = e
after_first t (c ∷ cs) b e = after_first (t || b == c) cs b (or_left t (b == c) e)

first_or : (t : Bool) (c : ℕ) (cs : List ℕ) (b : ℕ) → ((t || b == c) ≡ true) ⊎ Contains cs b → (t ≡ true) ⊎ Contains (c ∷ cs) b
first_or t c cs b (inl e) = ⊎_elim (λ h. inl h) (λ h. inr (0, omega arith, sym (eqb-true b c h))) (or_cases t (b == c) e)
first_or t c cs b (inr h) = let within = h.1 in inr (suc h.0, omega (arith, within), h.2)

pub account_of : (t : Bool) (cs : List ℕ) (b : ℕ) → after t cs b ≡ true → (t ≡ true) ⊎ Contains cs b
account_of t [] b e = inl e
account_of t (c ∷ cs) b e = first_or t c cs b (account_of (t || b == c) cs b e)

contained_after : (t : Bool) (cs : List ℕ) (b : ℕ) → Contains cs b → after t cs b ≡ true
contained_after t [] b h = let none = h.1 in absurd (omega (arith, none))
contained_after t (c ∷ cs) b (zero, within, e) = after_first (t || b == c) cs b (or_right t (b == c) (eq-eqb b c (sym e)))
contained_after t (c ∷ cs) b (suc k, within, e) = contained_after (t || b == c) cs b (k, omega (arith, within), e)

pub test_of : (t : Bool) (cs : List ℕ) (b : ℕ) → (t ≡ true) ⊎ Contains cs b → after t cs b ≡ true
test_of t cs b (inl e) = after_first t cs b e
test_of t cs b (inr h) = contained_after t cs b h

-- one of these, and nothing else: b == x || b == y || ..
abbrev pub among : List ℕ → ℕ → Bool
among xs b = after false xs b

second : {P : Type 0} → (false ≡ true) ⊎ P → P
second (inl e) = absurd cc
second (inr p) = p

pub contains : (cs : List ℕ) (b : ℕ) → among cs b ≡ true → Contains cs b
contains cs b e = second (account_of false cs b e)

pub contained : (cs : List ℕ) (b : ℕ) → Contains cs b → among cs b ≡ true
contained cs b h = contained_after false cs b h

pub not_contained : (xs : List ℕ) (b : ℕ) → (Contains xs b → ⊥) → among xs b ≡ false
not_contained xs b none = false_from_ne_true (among xs b) (λ e. none (contains xs b e))

pub contains_not : (xs : List ℕ) (b : ℕ) → among xs b ≡ false → Contains xs b → ⊥
contains_not xs b e c = true≢false (sym (contained xs b c) ∙ e)

-- a test of two sorts of bytes: those of another test, and one byte
pub or_is : (t : Bool) (b n : ℕ) → (t || b == n) ≡ true → (t ≡ true) ⊎ (b ≡ n)
or_is true b n e = inl refl
or_is false b n e = inr (eqb-true b n e)

pub is_or : (t : Bool) (b n : ℕ) → (t ≡ true) ⊎ (b ≡ n) → (t || b == n) ≡ true
is_or t b n (inl e) = or_left t (b == n) e
is_or t b n (inr e) = or_right t (b == n) (eq-eqb b n e)

-- each byte of a run is one of these, or a digit
module _ (first : ℕ → Bool) (cs : List ℕ) where
  abbrev Test : ℕ → Type 0
  Test c = (after (first c) cs c || is_digit c) ≡ true

  abbrev Account : ℕ → Type 0
  Account c = ((first c ≡ true) ⊎ Contains cs c) ⊎ (is_digit c ≡ true)

  test_once : (c : ℕ) → Account c → Test c
  test_once c (inl h) = or_left (after (first c) cs c) (is_digit c) (test_of (first c) cs c h)
  test_once c (inr e) = or_right (after (first c) cs c) (is_digit c) e

  pub run_account : (bs : List ℕ) → All Test bs → All Account bs
  run_account = All-weaker Test Account (λ c e. ⊎_elim (λ h. inl (account_of (first c) cs c h)) (λ h. inr h) (or_cases (after (first c) cs c) (is_digit c) e))

  pub run_test : (bs : List ℕ) → All Account bs → All Test bs
  run_test = All-weaker Account Test test_once

-- Places stay in range, a front and what is after it are the text, and a number that is capped stays so.
use Rattle.std.proofs.Common.{◌≡◌, ℕ, ◌+◌, ◌-◌, ◌*◌, ◌≤◌, Bool, true, false, cond, List, [], ◌∷◌, length, take, drop, refl, sym, ap, ◌∙◌, arith}
use Rattle.std.specs.Prelude.{◌==◌, if◌then◌else◌}
use Rattle.scan_text.specs.declared.Place.{Place}
use Rattle.scan_text.specs.Text.{step, walk, front, rest_behind, decimal, capped_count}

-- a place that some bytes lead to
pub record Follows (at after : Place) (n : ℕ) : Type 0 where
  pub sum : after.line + after.column ≤ at.line + at.column + n
  pub line : 1 ≤ after.line
  pub column : 1 ≤ after.column

step_follows : (at : Place) (b : ℕ) → 1 ≤ at.line → 1 ≤ at.column → Follows at (step at b) 1
step_follows at b l c =
    elim (b == 10) as (λ t. Follows at (if t then record { line = at.line + 1; column = 1 } else record { line = at.line; column = at.column + 1 }) 1) [
      | true ↦ record { sum = omega arith; line = omega arith; column = omega arith }
      | false ↦ record { sum = omega arith; line = omega arith; column = omega arith }
    ]

pub walk_follows : (at : Place) (bs : List ℕ) → 1 ≤ at.line → 1 ≤ at.column → Follows at (walk at bs) (length bs)
walk_follows at [] l c = record { sum = omega arith; line = l; column = c }
walk_follows at (b ∷ bs) l c =
    let s = step_follows at b l c in
    let w = walk_follows (step at b) bs s.line s.column in
    record { sum = omega (arith, s.sum, w.sum); line = w.line; column = w.column }

pub take_front : (test : ℕ → Bool) (bs : List ℕ) → take (length (front test bs)) bs ≡ front test bs
take_front test [] = refl
take_front test (b ∷ bs) = elim (test b) as (λ t. take (length (cond t (b ∷ front test bs) [])) (b ∷ bs) ≡ cond t (b ∷ front test bs) []) [
  | true ↦ ap (λ (l : List ℕ). b ∷ l) (take_front test bs)
  | false ↦ refl
]

pub drop_front : (test : ℕ → Bool) (bs : List ℕ) → drop (length (front test bs)) bs ≡ rest_behind test bs
drop_front test [] = refl
drop_front test (b ∷ bs) = elim (test b) as (λ t. drop (length (cond t (b ∷ front test bs) [])) (b ∷ bs) ≡ cond t (rest_behind test bs) (b ∷ bs)) [
  | true ↦ drop_front test bs
  | false ↦ refl
]

keeps : (test : ℕ → Bool) (b : ℕ) (l m : List ℕ) (t : Bool) → test b ≡ t → front test l ≡ l → front test (cond t (b ∷ l) []) ≡ cond t (b ∷ l) []
keeps test b l m true e h = rw (e, h) refl
keeps test b l m false e h = refl

pub front_front : (test : ℕ → Bool) (bs : List ℕ) → front test (front test bs) ≡ front test bs
front_front test [] = refl
front_front test (b ∷ bs) = keeps test b (front test bs) bs (test b) refl (front_front test bs)

capped_step : (n e : ℕ) → capped_count (capped_count n * 10 + e) ≡ capped_count (n * 10 + e)
capped_step n e = omega arith

-- only the cap of what stands before the digits counts
pub capped_decimal : (n : ℕ) (ds : List ℕ) → capped_count (decimal (capped_count n) ds) ≡ capped_count (decimal n ds)
capped_decimal n [] = omega arith
capped_decimal n (d ∷ ds) =
    sym (capped_decimal (capped_count n * 10 + (d - 48)) ds)
    ∙ ap (λ (k : ℕ). capped_count (decimal k ds)) (capped_step n (d - 48))
    ∙ capped_decimal (n * 10 + (d - 48)) ds

front_tail : (test : ℕ → Bool) (b : ℕ) (bs : List ℕ) (t : Bool) → cond t (b ∷ front test bs) [] ≡ b ∷ bs → front test bs ≡ bs
front_tail test b bs true e = cc
front_tail test b bs false e = absurd cc

pub all_but_first : (test : ℕ → Bool) (b : ℕ) (bs : List ℕ) → front test (b ∷ bs) ≡ b ∷ bs → front test bs ≡ bs
all_but_first test b bs e = front_tail test b bs (test b) e

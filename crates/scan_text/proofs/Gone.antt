-- Going over blanks, comments and lines at once is going over them byte by byte.
use Rattle.std.proofs.Common.{◌≡◌, ℕ, zero, suc, ◌+◌, ◌≤◌, Bool, true, false, cond, List, [], ◌∷◌, length, take, drop, Option, Some, None, Ok, Err, refl, sym, ap, ◌∙◌, arith}
use Rattle.std.specs.Prelude.{◌==◌}
use Rattle.scan_text.specs.declared.Place.{Place}
use Rattle.scan_text.specs.declared.Blank.{Blank}
use Rattle.scan_text.specs.declared.Blank.TheVariants.{Over, Unclosed, Other}
use Rattle.scan_text.specs.Text.{step, walk, front, rest_behind}
use Rattle.scan_text.specs.Blanks.{line_end, line, is_blank, and_one, in_line, comment, blank, blanks, blanks_by}

-- n more bytes
abbrev pub more_by : ℕ → Option ℕ → Option ℕ
more_by n None = None
more_by n (Some k) = Some (n + k)

pub more_by-one : (n : ℕ) (o : Option ℕ) → more_by n (and_one o) ≡ more_by (n + 1) o
more_by-one n None = refl
more_by-one n (Some k) = ap Some (omega arith)

pub more_by-zero : (o : Option ℕ) → more_by 0 o ≡ o
more_by-zero None = refl
more_by-zero (Some k) = ap Some (omega arith)

-- bytes that are still to come are gone over
pub pending : (n : ℕ) (at : Place) (bs : List ℕ) → blanks n at bs ≡ blanks 0 (walk at (take n bs)) (drop n bs)
pending zero at [] = refl
pending zero at (b ∷ bs) = refl
pending (suc n) at [] = refl
pending (suc n) at (b ∷ bs) = pending n (step at b) bs

-- one blank or comment
pub one_over : (at : Place) (bs : List ℕ) (n : ℕ) → blank bs ≡ Over n → blanks 0 at bs ≡ blanks 0 (walk at (take (suc n) bs)) (drop (suc n) bs)
one_over at [] n e = absurd cc
one_over at (b ∷ bs) n e = ap (λ (k : Blank). blanks_by k at (b ∷ bs) (λ m. blanks m (step at b) bs)) e ∙ pending n (step at b) bs

pub over_by : (at : Place) (bs : List ℕ) (n : ℕ) → blank bs ≡ Over n → blanks 0 at bs ≡ blanks 0 (walk at (take (n + 1) bs)) (drop (n + 1) bs)
over_by at bs n e = let same : suc n ≡ n + 1 = omega arith in one_over at bs n e ∙ ap (λ (k : ℕ). blanks 0 (walk at (take k bs)) (drop k bs)) same

-- a run of blanks
none_front : (b : ℕ) (bs : List ℕ) → is_blank b ≡ false → front is_blank (b ∷ bs) ≡ []
none_front b bs e = rw e refl

none_behind : (b : ℕ) (bs : List ℕ) → is_blank b ≡ false → rest_behind is_blank (b ∷ bs) ≡ b ∷ bs
none_behind b bs e = rw e refl

run_by : (at : Place) (b : ℕ) (bs : List ℕ) (t : Bool) → is_blank b ≡ t → blanks 0 (step at b) bs ≡ blanks 0 (walk (step at b) (front is_blank bs)) (rest_behind is_blank bs) → blanks 0 at (b ∷ bs) ≡ blanks 0 (walk at (front is_blank (b ∷ bs))) (rest_behind is_blank (b ∷ bs))
run_by at b bs true e h = rw e h
run_by at b bs false e h = sym (λ i. blanks 0 (walk at (none_front b bs e i)) (none_behind b bs e i))

pub run_over : (at : Place) (bs : List ℕ) → blanks 0 at bs ≡ blanks 0 (walk at (front is_blank bs)) (rest_behind is_blank bs)
run_over at [] = refl
run_over at (b ∷ bs) = run_by at b bs (is_blank b) refl (run_over (step at b) bs)

pub none_over : (at : Place) (bs : List ℕ) → blank bs ≡ Other → blanks 0 at bs ≡ Ok (at, bs)
none_over at [] e = refl
none_over at (b ∷ bs) e = ap (λ (k : Blank). blanks_by k at (b ∷ bs) (λ m. blanks m (step at b) bs)) e

pub open_stops : (at : Place) (bs : List ℕ) → blank bs ≡ Unclosed → blanks 0 at bs ≡ Err (at, bs)
open_stops at [] e = absurd cc
open_stops at (b ∷ bs) e = ap (λ (k : Blank). blanks_by k at (b ∷ bs) (λ m. blanks m (step at b) bs)) e

-- the line is a front of what is left
pub take_line : (bs : List ℕ) → take (length (line bs)) bs ≡ line bs
take_line [] = refl
take_line (b ∷ bs) = elim (line_end (b ∷ bs) == 0) as (λ t. take (length (cond t (b ∷ line bs) [])) (b ∷ bs) ≡ cond t (b ∷ line bs) []) [
  | true ↦ ap (λ (l : List ℕ). b ∷ l) (take_line bs)
  | false ↦ refl
]

-- a second slash begins a comment up to the line's end
pub line_comment : (bs : List ℕ) (b : ℕ) (tail : List ℕ) → bs ≡ b ∷ tail → b ≡ 47 → comment bs ≡ Over (length (front in_line bs))
line_comment [] b tail e f = absurd cc
line_comment (c ∷ bs) b tail e f = let same : c ≡ 47 = cc in rw same refl

pub length-behind : (test : ℕ → Bool) (bs : List ℕ) → length (rest_behind test bs) ≤ length bs
length-behind test [] = omega arith
length-behind test (b ∷ bs) = elim (test b) as (λ t. length (cond t (rest_behind test bs) (b ∷ bs)) ≤ length (b ∷ bs)) [
  | true ↦ omega (arith, length-behind test bs)
  | false ↦ omega arith
]

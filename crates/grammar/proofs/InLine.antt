-- A language that is read by lines: what is passed over may stand between tokens, and what may stand there is passed over.
use Rattle.std.proofs.Common.{◌≡◌, ℕ, suc, ◌-◌, ◌≤◌, Bool, true, false, cond, List, [], ◌∷◌, ◌++◌, length, take, drop, take-append-drop, refl, sym, ap, subst, ◌∙◌, arith, ◌⊎◌, inl, inr, eqb-true}
use Rattle.std.specs.Prelude.{◌==◌, ◌||◌, ◌&&◌}
use Rattle.std.proofs.lemmas.Bool.{and_parts, or_cases}
use Rattle.scan_text.specs.declared.Place.{Place}
use Rattle.scan_text.specs.Text.{is_digit}
use Rattle.scan_text.specs.Blanks.{starts, line, line_end}
use Rattle.grammar.specs.declared.Fault.{Fault}
use Rattle.grammar.specs.declared.Fault.TheVariants.{Grammar}
use Rattle.grammar.specs.Cutting.{Piece, Passed, Wrong}
use Rattle.grammar.specs.Between.{EndsLine, AtEnd, AtFeed, AtReturnAndFeed, IsInLine, IsBetweenInLine, ASpace, ATab, AComment}
use Rattle.grammar.specs.Lines.{comment_piece}
use Rattle.grammar.specs.Longest.{IsOver}
use Rattle.grammar.proofs.Longest.{IsCut, Passes, cut_if, no_digit, limited, limited_refuses, over_begins, none_over}
use Rattle.grammar.proofs.Spaced.{take_none, less_one}

-- the rest of a line

-- where no line end stands, no line ends
goes_on : (b : ℕ) (bs : List ℕ) → (line_end (b ∷ bs) == 0) ≡ true → EndsLine (b ∷ bs) → ⊥
goes_on b bs e AtFeed = absurd cc
goes_on b bs e AtReturnAndFeed = absurd cc

return_ends : (b : ℕ) (bs : List ℕ) → b ≡ 13 → starts 10 bs ≡ true → EndsLine (b ∷ bs)
return_ends b [] same e = absurd cc
return_ends b (c ∷ cs) same e = let next = eqb-true c 10 e in subst EndsLine (sym (λ i. same i ∷ next i ∷ cs)) AtReturnAndFeed

ends_by : (b : ℕ) (bs : List ℕ) (x y : Bool) → (b == 10) ≡ x → (b == 13 && starts 10 bs) ≡ y → (cond x 1 (cond y 2 0) == 0) ≡ false → EndsLine (b ∷ bs)
ends_by b bs true y e f none = subst (λ (k : ℕ). EndsLine (k ∷ bs)) (sym (eqb-true b 10 e)) AtFeed
ends_by b bs false true e f none = let both = and_parts (b == 13) (starts 10 bs) f in return_ends b bs (eqb-true b 13 both.0) both.1
ends_by b bs false false e f none = absurd cc

-- where one stands, one ends
ends : (b : ℕ) (bs : List ℕ) → (line_end (b ∷ bs) == 0) ≡ false → EndsLine (b ∷ bs)
ends b bs e = ends_by b bs (b == 10) (b == 13 && starts 10 bs) refl refl e

line_within_by : (b : ℕ) (bs : List ℕ) (t : Bool) → length (line bs) ≤ length bs → length (cond t (b ∷ line bs) []) ≤ length (b ∷ bs)
line_within_by b bs true h = omega (arith, h)
line_within_by b bs false h = omega arith

line_within : (bs : List ℕ) → length (line bs) ≤ length bs
line_within [] = omega arith
line_within (b ∷ bs) = line_within_by b bs (line_end (b ∷ bs) == 0) (line_within bs)

abbrev IsRest : List ℕ → List ℕ → Type 0
IsRest l bs = IsInLine (take (length l) bs) (drop (length l) bs) × EndsLine (drop (length l) bs)

rest_by : (b : ℕ) (bs : List ℕ) (t : Bool) → (line_end (b ∷ bs) == 0) ≡ t → IsRest (line bs) bs → IsRest (cond t (b ∷ line bs) []) (b ∷ bs)
rest_by b bs true e h = ((λ here. goes_on b bs e (subst (λ (l : List ℕ). EndsLine (b ∷ l)) (take-append-drop (length (line bs)) bs) here), h.0), h.1)
rest_by b bs false e h = (tt, ends b bs e)

-- the rest of a line is in that line, which ends after it
rest : (bs : List ℕ) → IsRest (line bs) bs
rest [] = (tt, AtEnd)
rest (b ∷ bs) = rest_by b bs (line_end (b ∷ bs) == 0) refl (rest bs)

line_none : (behind : List ℕ) → EndsLine behind → line behind ≡ []
line_none behind AtEnd = refl
line_none behind AtFeed = refl
line_none behind AtReturnAndFeed = refl

line_more : (b : ℕ) (bs : List ℕ) (t : Bool) → (line_end (b ∷ bs) == 0) ≡ t → (EndsLine (b ∷ bs) → ⊥) → cond t (b ∷ line bs) [] ≡ b ∷ line bs
line_more b bs true e h = refl
line_more b bs false e h = absurd (h (ends b bs e))

-- and what is in a line that ends after it is the rest of that line
pub line_is : (bs behind : List ℕ) → IsInLine bs behind → EndsLine behind → line (bs ++ behind) ≡ bs
line_is [] behind h e = line_none behind e
line_is (b ∷ bs) behind h e = line_more b (bs ++ behind) (line_end (b ∷ (bs ++ behind)) == 0) refl h.0 ∙ ap (λ (l : List ℕ). b ∷ l) (line_is bs behind h.1 e)

-- what is passed over

module _ (T : Type 0) (IsOne IsBetween : List ℕ → List ℕ → Type 0) (Past : List ℕ → (Place → Fault) → Type 0) (space : (behind : List ℕ) → IsBetween (32 ∷ []) behind) (tab : (behind : List ℕ) → IsBetween (9 ∷ []) behind) where
  blank_stands : (b : ℕ) (behind : List ℕ) → ((b == 32) ≡ true) ⊎ ((b == 9) ≡ true) → IsBetween (b ∷ []) behind
  blank_stands b behind (inl e) = subst (λ (k : ℕ). IsBetween (k ∷ []) behind) (sym (eqb-true b 32 e)) (space behind)
  blank_stands b behind (inr e) = subst (λ (k : ℕ). IsBetween (k ∷ []) behind) (sym (eqb-true b 9 e)) (tab behind)

  -- a space or a tab
  pub blank_is_cut : (b : ℕ) (bs : List ℕ) → (b == 32 || b == 9) ≡ true → IsCut {T = T} IsOne IsBetween Past (b ∷ bs) (Passed 0)
  blank_is_cut b bs e = (omega arith, subst (λ (l : List ℕ). IsBetween (b ∷ l) (drop 0 bs)) (sym (take_none bs)) (blank_stands b (drop 0 bs) (or_cases (b == 32) (b == 9) e)))

module _ (T : Type 0) (IsOne : List ℕ → List ℕ → Type 0) (Past : List ℕ → (Place → Fault) → Type 0) where
  abbrev IsCutHere : List ℕ → Piece T → Type 0
  IsCutHere = IsCut IsOne IsBetweenInLine Past

  comment_cut : (cs : List ℕ) → IsCutHere (47 ∷ 47 ∷ cs) (Passed (length (line (47 ∷ 47 ∷ cs)) - 1))
  comment_cut cs =
      let within = line_within cs in
      let r = rest cs in
      subst (λ (k : ℕ). Passes IsBetweenInLine k (47 ∷ 47 ∷ cs)) (sym (less_one 47 (47 ∷ line cs))) (omega (arith, within), AComment r.0 r.1)

  slashes_cut : (bs : List ℕ) → IsCutHere (47 ∷ bs) (comment_piece (47 ∷ bs))
  slashes_cut [] = inl refl
  slashes_cut (c ∷ cs) =
      cut_if IsOne IsBetweenInLine Past (47 ∷ c ∷ cs) (c == 47) (Passed (length (line (47 ∷ c ∷ cs)) - 1)) (Wrong Grammar)
      (λ e. subst (λ (k : ℕ). IsCutHere (47 ∷ k ∷ cs) (Passed (length (line (47 ∷ k ∷ cs)) - 1))) (sym (eqb-true c 47 e)) (comment_cut cs))
      (λ e. inl refl)

  -- a comment
  pub comment_is_cut : (b : ℕ) (bs : List ℕ) → (b == 47) ≡ true → IsCutHere (b ∷ bs) (comment_piece (b ∷ bs))
  comment_is_cut b bs e = subst (λ (k : ℕ). IsCutHere (k ∷ bs) (comment_piece (k ∷ bs))) (sym (eqb-true b 47 e)) (slashes_cut bs)

-- what may stand between tokens is passed over
module _ {T : Type 0} (piece : List ℕ → Piece T) (space : (bs : List ℕ) → piece (32 ∷ bs) ≡ Passed 0) (tab : (bs : List ℕ) → piece (9 ∷ bs) ≡ Passed 0) (comment : (bs : List ℕ) → piece (47 ∷ 47 ∷ bs) ≡ comment_piece (47 ∷ 47 ∷ bs)) where
  pub passes_between : (b : ℕ) (bs behind : List ℕ) → IsBetweenInLine (b ∷ bs) behind → piece (b ∷ (bs ++ behind)) ≡ Passed (length bs)
  passes_between b bs behind ASpace = space behind
  passes_between b bs behind ATab = tab behind
  passes_between b bs behind (AComment {bs = cs} inside ended) = comment (cs ++ behind) ∙ ap Passed (less_one 47 (47 ∷ line (cs ++ behind))) ∙ ap (λ (l : List ℕ). Passed (suc (length l))) (line_is cs behind inside ended)

-- A number past its limit is refused, where blanks and tabs are passed over, and else a digit begins a number.
pub over_refused : {T : Type 0} (piece : List ℕ → Piece T) (token : List ℕ → Place → T) (others : ℕ → List ℕ → Piece T)
    → ((b : ℕ) (bs : List ℕ) → piece (b ∷ bs) ≡ cond (b == 32 || b == 9) (Passed 0) (cond (is_digit b) (limited (token (b ∷ bs)) (b ∷ bs)) (others b (b ∷ bs))))
    → (bs : List ℕ) (f : Place → Fault) → IsOver 32767 bs f → piece bs ≡ Wrong f
over_refused piece token others is [] f h = absurd (none_over f h)
over_refused piece token others is (b ∷ bs) f h =
    let all = b ∷ bs in
    let digit : is_digit b ≡ true = over_begins b bs f h in
    is b bs
    ∙ ap (λ (t : Bool). cond t (Passed 0) (cond (is_digit b) (limited (token all) all) (others b all))) (no_digit (λ c. c == 32 || c == 9) refl b digit)
    ∙ ap (λ (t : Bool). cond t (limited (token all) all) (others b all)) digit
    ∙ limited_refuses (token all) all f h

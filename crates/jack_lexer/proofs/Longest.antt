-- Each token of a Jack text is the longest that begins where it begins, between blanks and comments.
use Rattle.std.proofs.Common.{◌≡◌, ℕ, suc, ◌+◌, ◌-◌, ◌≤◌, ◌⊎◌, Bool, true, false, cond, List, [], ◌∷◌, ◌++◌, length, take, drop, length-append, refl, sym, ap, subst, ◌∙◌, arith, inl, inr, eqb-true, add-one}
use Rattle.std.specs.Prelude.{◌==◌, ◌||◌, ◌&&◌, nat_le, codes}
use Rattle.std.specs.List.{All}
use Rattle.std.proofs.lemmas.List.Elements.{All-cons, All-head, All-weaker}
use Rattle.std.proofs.lemmas.Bool.{and_parts, and_from, or_cases, or_left, or_right, eq-eqb, leb-true, le-leb, false_from_ne_true, true≢false}
use Rattle.std.proofs.lemmas.Bool.Decides.{nat_tests}
use Rattle.scan_text.specs.declared.Place.{Place}
use Rattle.scan_text.specs.declared.Blank.TheVariants.{Other}
use Rattle.scan_text.specs.Text.{front, is_digit, digits, decimal, capped_count}
use Rattle.scan_text.specs.Blanks.{starts, blank}
use Rattle.grammar.specs.declared.Fault.{Fault}
use Rattle.grammar.specs.declared.Fault.TheVariants.{Grammar}
use Rattle.grammar.specs.Between.{IsBetween}
use Rattle.grammar.specs.Cutting.{Piece, Wrong, past_blanks}
use Rattle.grammar.specs.Longest.{IsLongestMatch, IsOver}
use Rattle.grammar.proofs.Spaced.{drop_none, no_blank}
use Rattle.grammar.proofs.Longest.{IsCut, Reaches, cut_if, reaches_if, front_run, run_is_cut, byte_is_cut, run_reached, closes, closed_front, closed_behind, no_digit, limited_is_cut, limited_reaches, over_begins, none_over, limited_refuses}
use Rattle.grammar.proofs.Blanks as blanks
use Rattle.grammar.proofs.Bytes.{contained, contains}
use Rattle.grammar.proofs.Blanks.{letter_is, name_run, is_name_run, begins_none, none_begins, passing_begins, longest_past_blanks}
use Rattle.jack_tree.specs.declared.token.Kind.TheVariants as kind
use Rattle.jack_tree.specs.Tokens.{Word}
use Rattle.grammar.specs.Words.{is_letter, is_name_byte}
use Rattle.jack_lexer.specs.Tokens.{piece, token_of, number_piece, word_piece, symbol_piece, text_piece, is_sign, is_text_byte}
use Rattle.jack_lexer.specs.OneToken.{IsInText, IsOne, AWord, AnInteger, ASymbol, AString}

-- the pieces that are left when the tests before them fail
abbrev text_or : ℕ → List ℕ → Piece Word
text_or b all = cond (b == 34) (text_piece all) (Wrong Grammar)

abbrev number_or : ℕ → List ℕ → Piece Word
number_or b all = cond (is_digit b) (number_piece all) (text_or b all)

abbrev symbol_or : ℕ → List ℕ → Piece Word
symbol_or b all = cond (is_sign b) (symbol_piece b all) (number_or b all)

-- the token of a number at the front
abbrev integer : List ℕ → Place → Word
integer all at = record { kind = kind.Integer (capped_count (decimal 0 (digits all))); text = take (suc (length (digits all) - 1)) all; place = at }

letter_in_name : (b : ℕ) → is_letter b ≡ true → is_name_byte b ≡ true
letter_in_name b e = rw e refl

sign_is_no_letter : (b : ℕ) → is_sign b ≡ true → is_letter b ≡ true → ⊥
sign_is_no_letter b s l = grind (arith, nat_tests, s, l)

-- strings

no_quote : (t : Bool) → cond t false true ≡ true → t ≡ false
no_quote true e = absurd cc
no_quote false e = refl

text_byte_is : (b : ℕ) → is_text_byte b ≡ true → IsInText b
text_byte_is b e =
    let range = nat_le 32 b && nat_le b 126 in
    let parts = and_parts (b == 9 || range) (cond (b == 34) false true) e in (
      elim (or_cases (b == 9) range parts.0) [
        | inl tab ↦ inl (eqb-true b 9 tab)
        | inr shown ↦ let both = and_parts (nat_le 32 b) (nat_le b 126) shown in inr (leb-true 32 b both.0, leb-true b 126 both.1)
      ],
      λ q. true≢false (sym (eq-eqb b 34 q) ∙ no_quote (b == 34) parts.1),
    )

shown_byte : (b : ℕ) → (b ≡ 9) ⊎ ((32 ≤ b) × (b ≤ 126)) → (b == 9 || (nat_le 32 b && nat_le b 126)) ≡ true
shown_byte b (inl tab) = or_left (b == 9) (nat_le 32 b && nat_le b 126) (eq-eqb b 9 tab)
shown_byte b (inr shown) = or_right (b == 9) (nat_le 32 b && nat_le b 126) (and_from (nat_le 32 b) (nat_le b 126) (le-leb 32 b shown.0) (le-leb b 126 shown.1))

is_in_text : (b : ℕ) → IsInText b → is_text_byte b ≡ true
is_in_text b h =
    let other : (b == 34) ≡ false = false_from_ne_true (b == 34) (λ q. h.1 (eqb-true b 34 q)) in
    and_from (b == 9 || (nat_le 32 b && nat_le b 126)) (cond (b == 34) false true) (shown_byte b h.0) (ap (λ (t : Bool). cond t false true) other)

abbrev quoted : ℕ → List ℕ → Piece Word
quoted n all = cond (starts 34 (drop n all)) (token_of kind.Text n all) (Wrong Grammar)

text_is : (bs : List ℕ) → text_piece (34 ∷ bs) ≡ quoted (suc (length (front is_text_byte bs))) (34 ∷ bs)
text_is bs = ap (λ (n : ℕ). quoted n (34 ∷ bs)) (ap (λ (l : List ℕ). length (front is_text_byte l) + 1) (drop_none bs) ∙ add-one (length (front is_text_byte bs)))

text_cut : (bs : List ℕ) → IsCut IsOne IsBetween (IsOver 32767) (34 ∷ bs) (text_piece (34 ∷ bs))
text_cut bs =
    let run = front is_text_byte bs in
    subst (IsCut IsOne IsBetween (IsOver 32767) (34 ∷ bs)) (sym (text_is bs)) (
    cut_if IsOne IsBetween (IsOver 32767) (34 ∷ bs) (starts 34 (drop (length run) bs)) (token_of kind.Text (suc (length run)) (34 ∷ bs)) (Wrong Grammar)
    (λ e. let h = closes is_text_byte 34 bs e in (omega (arith, h.0), subst (λ (l : List ℕ). IsOne (34 ∷ l) (drop (suc (length run)) bs)) (sym h.1) (AString run (All-weaker (λ c. is_text_byte c ≡ true) IsInText text_byte_is run (front_run is_text_byte bs)))))
    (λ e. inl refl)
    )

text_reaches : (bs rest : List ℕ) → All (λ c. is_text_byte c ≡ true) bs → Reaches (length (34 ∷ (bs ++ 34 ∷ []))) (text_piece (34 ∷ ((bs ++ 34 ∷ []) ++ rest)))
text_reaches bs rest a =
    let all = 34 ∷ ((bs ++ 34 ∷ []) ++ rest) in
    let run = closed_front is_text_byte 34 bs rest a refl in
    let closed : starts 34 (drop (suc (length bs)) all) ≡ true = ap (starts 34) (closed_behind 34 bs rest) in
    subst (Reaches (length (34 ∷ (bs ++ 34 ∷ [])))) (sym (text_is ((bs ++ 34 ∷ []) ++ rest) ∙ ap (λ (l : List ℕ). quoted (suc (length l)) all) run)) (
    reaches_if (length (34 ∷ (bs ++ 34 ∷ []))) (starts 34 (drop (suc (length bs)) all)) (token_of kind.Text (suc (length bs)) all) (Wrong Grammar)
    (λ e. omega (arith, length-append bs (34 ∷ [])))
    (λ e. absurd (cc (closed, e)))
    )

-- each piece

cut : (bs : List ℕ) → blank bs ≡ Other → IsCut IsOne IsBetween (IsOver 32767) bs (piece bs)
cut [] o = tt
cut (b ∷ bs) o =
    let all = b ∷ bs in
    cut_if IsOne IsBetween (IsOver 32767) all (is_letter b) (word_piece all) (symbol_or b all)
    (λ l. run_is_cut IsOne is_name_byte b bs (letter_in_name b l) (λ rest. AWord (letter_is b l) (name_run bs)))
    (λ l. cut_if IsOne IsBetween (IsOver 32767) all (is_sign b) (symbol_piece b all) (number_or b all)
    (λ s. byte_is_cut IsOne b bs (ASymbol (contains (codes "{}()[].,;+-*/&|<>=~^#") b s) (begins_none b bs o).1))
    (λ s. cut_if IsOne IsBetween (IsOver 32767) all (is_digit b) (number_piece all) (text_or b all)
    (λ d. limited_is_cut IsOne IsBetween (integer all) b bs d (λ rest. AnInteger (All-cons (λ c. is_digit c ≡ true) b (digits bs) d (front_run is_digit bs))))
    (λ d. cut_if IsOne IsBetween (IsOver 32767) all (b == 34) (text_piece all) (Wrong Grammar)
    (λ q. subst (λ (k : ℕ). IsCut IsOne IsBetween (IsOver 32767) (k ∷ bs) (text_piece (k ∷ bs))) (sym (eqb-true b 34 q)) (text_cut bs)) (λ q. inl refl))))

reaches : (xs rest : List ℕ) → IsOne xs rest → (blank (xs ++ rest) ≡ Other) × Reaches (length xs) (piece (xs ++ rest))
reaches xs rest (AWord {b} {bs} h a) =
    let all = b ∷ (bs ++ rest) in
    let l : is_letter b ≡ true = blanks.is_letter b h in (
      passing_begins is_letter b (bs ++ rest) l refl refl refl refl refl,
      reaches_if (length (b ∷ bs)) (is_letter b) (word_piece all) (symbol_or b all) (λ e. run_reached is_name_byte b bs rest (is_name_run b bs h a)) (λ e. absurd (cc (l, e))),
    )
reaches xs rest (AnInteger {d} {ds} a) =
    let all = d ∷ (ds ++ rest) in
    let digit : is_digit d ≡ true = All-head (λ c. is_digit c ≡ true) d ds a in
    let letter = no_digit is_letter refl d digit in
    let sign = no_digit is_sign refl d digit in (
      passing_begins is_digit d (ds ++ rest) digit refl refl refl refl refl,
      reaches_if (length (d ∷ ds)) (is_letter d) (word_piece all) (symbol_or d all) (λ e. absurd (cc (letter, e)))
          (λ l. reaches_if (length (d ∷ ds)) (is_sign d) (symbol_piece d all) (number_or d all) (λ e. absurd (cc (sign, e)))
          (λ s. reaches_if (length (d ∷ ds)) (is_digit d) (number_piece all) (text_or d all) (λ e. limited_reaches (integer all) d ds rest a) (λ e. absurd (cc (digit, e))))),
    )
reaches xs rest (ASymbol {b} c slash) =
    let all = b ∷ rest in
    let s : is_sign b ≡ true = contained (codes "{}()[].,;+-*/&|<>=~^#") b c in (
      none_begins b rest (no_blank is_sign b s refl refl refl refl, slash),
      reaches_if 1 (is_letter b) (word_piece all) (symbol_or b all) (λ e. absurd (sign_is_no_letter b s e))
          (λ l. reaches_if 1 (is_sign b) (symbol_piece b all) (number_or b all) (λ e. omega arith) (λ e. absurd (cc (s, e)))),
    )
reaches xs rest (AString bs a) = (refl, text_reaches bs rest (All-weaker IsInText (λ c. is_text_byte c ≡ true) is_in_text bs a))

refuses : (bs : List ℕ) (f : Place → Fault) → IsOver 32767 bs f → (blank bs ≡ Other) × (piece bs ≡ Wrong f)
refuses [] f h = absurd (none_over f h)
refuses (b ∷ bs) f h =
    let all = b ∷ bs in
    let digit : is_digit b ≡ true = over_begins b bs f h in (
      passing_begins is_digit b bs digit refl refl refl refl refl,
      ap (λ (t : Bool). cond t (word_piece all) (symbol_or b all)) (no_digit is_letter refl b digit)
          ∙ ap (λ (t : Bool). cond t (symbol_piece b all) (number_or b all)) (no_digit is_sign refl b digit)
          ∙ ap (λ (t : Bool). cond t (number_piece all) (text_or b all)) digit
          ∙ limited_refuses (integer all) all f h,
    )

pub is_longest : IsLongestMatch IsOne IsBetween (IsOver 32767) (past_blanks piece)
is_longest = longest_past_blanks IsOne (IsOver 32767) piece cut reaches refuses

-- Each token of a test script is the longest that begins where it begins, between blanks and comments.
use Rattle.std.proofs.Common.{◌≡◌, ℕ, suc, ◌+◌, ◌≤◌, Bool, true, false, cond, List, [], ◌∷◌, ◌++◌, length, take, drop, take-append-drop, length-append, refl, sym, ap, subst, ◌∙◌, arith, inl, add-one, eqb-true}
use Rattle.std.specs.Prelude.{◌==◌, ◌||◌, ◌&&◌, codes}
use Rattle.std.specs.List.{All, Contains}
use Rattle.std.proofs.lemmas.List.Elements.{All-weaker}
use Rattle.std.proofs.lemmas.Bool.{eq-eqb, true≢false}
use Rattle.std.proofs.lemmas.Bool.Decides.{nat_tests}
use Rattle.scan_text.specs.declared.Blank.TheVariants.{Other}
use Rattle.scan_text.specs.Text.{front, rest_behind}
use Rattle.scan_text.specs.Blanks.{starts, is_blank, blank}
use Rattle.scan_text.proofs.Texts.{drop_front}
use Rattle.grammar.specs.declared.Fault.TheVariants.{Grammar}
use Rattle.grammar.specs.Between.{IsBetween, OpensComment, OfALine, OfABlock}
use Rattle.grammar.specs.Cutting.{Piece, Token, Wrong, past_blanks}
use Rattle.grammar.specs.Longest.{IsLongestMatch, HasNoLimit}
use Rattle.grammar.proofs.Spaced.{drop_none}
use Rattle.grammar.proofs.Longest.{IsCut, Reaches, cut_if, reaches_if, front_run, byte_is_cut, closes, closed_front, closed_behind}
use Rattle.grammar.proofs.Bytes.{among, contained, contains, not_contained, contains_not}
use Rattle.grammar.proofs.Blanks.{begins_none, none_begins, passing_begins, longest_past_blanks}
use Rattle.script_parser.specs.declared.token.Kind.TheVariants as kind
use Rattle.script_parser.specs.Tokens.{Word, piece, token_of, role_of, sign_piece, word_piece, word_front, text_piece, is_sign, is_text_byte, ends_word}
use Rattle.script_parser.specs.OneToken.{none_of_a_word, IsInWord, IsOne, AText, ASign, AWord}

-- a byte that ends no word

abbrev EndsNone : ℕ → List ℕ → Type 0
EndsNone b bs = (Contains none_of_a_word b → ⊥) × (b ≡ 47 → OpensComment bs → ⊥)

abbrev opens : List ℕ → Bool
opens bs = starts 47 bs || starts 42 bs

opens_not : (bs : List ℕ) → opens bs ≡ false → OpensComment bs → ⊥
opens_not bs e OfALine = true≢false e
opens_not bs e OfABlock = true≢false e

not_open_by : (c : ℕ) (cs : List ℕ) (x y : Bool) → (c == 47) ≡ x → (c == 42) ≡ y → (OpensComment (c ∷ cs) → ⊥) → (x || y) ≡ false
not_open_by c cs true y e f none = absurd (none (subst (λ (k : ℕ). OpensComment (k ∷ cs)) (sym (eqb-true c 47 e)) OfALine))
not_open_by c cs false true e f none = absurd (none (subst (λ (k : ℕ). OpensComment (k ∷ cs)) (sym (eqb-true c 42 f)) OfABlock))
not_open_by c cs false false e f none = refl

not_open : (bs : List ℕ) → (OpensComment bs → ⊥) → opens bs ≡ false
not_open [] none = refl
not_open (c ∷ cs) none = not_open_by c cs (c == 47) (c == 42) refl refl none

slash_by : (bs : List ℕ) (x : Bool) → (x ≡ true → OpensComment bs → ⊥) → (x && opens bs) ≡ false
slash_by bs true none = not_open bs (none refl)
slash_by bs false none = refl

slash_opens : (b : ℕ) (bs : List ℕ) → (b == 47 && opens bs) ≡ false → b ≡ 47 → opens bs ≡ false
slash_opens b bs e s = sym (ap (λ (t : Bool). t && opens bs) (eq-eqb b 47 s)) ∙ e

tests : (x y z w : Bool) → (x || y || z || w) ≡ false → (x ≡ false) × (y ≡ false) × (z ≡ false) × (w ≡ false)
tests true y z w e = absurd cc
tests false true z w e = absurd cc
tests false false true w e = absurd cc
tests false false false w e = (refl, refl, refl, e)

-- blanks, signs and the quote stand in no word
none_from : (b : ℕ) → is_blank b ≡ false → is_sign b ≡ false → (b == 34) ≡ false → among none_of_a_word b ≡ false
none_from b x y z = grind (arith, nat_tests, x, y, z)

no_blank_from : (b : ℕ) → among none_of_a_word b ≡ false → is_blank b ≡ false
no_blank_from b e = grind (arith, nat_tests, e)

no_sign_from : (b : ℕ) → among none_of_a_word b ≡ false → is_sign b ≡ false
no_sign_from b e = grind (arith, nat_tests, e)

no_quote_from : (b : ℕ) → among none_of_a_word b ≡ false → (b == 34) ≡ false
no_quote_from b e = grind (arith, nat_tests, e)

ends_none : (b : ℕ) (bs : List ℕ) → ends_word b bs ≡ false → EndsNone b bs
ends_none b bs e =
    let h = tests (is_blank b) (is_sign b) (b == 34) (b == 47 && opens bs) e in
    (contains_not none_of_a_word b (none_from b h.0 h.1 h.2), λ s. opens_not bs (slash_opens b bs h.3 s))

none_ends : (b : ℕ) (bs : List ℕ) → EndsNone b bs → ends_word b bs ≡ false
none_ends b bs h =
    let none : among none_of_a_word b ≡ false = not_contained none_of_a_word b h.0 in
    let x = no_blank_from b none in
    let y = no_sign_from b none in
    let z = no_quote_from b none in
    let w = slash_by bs (b == 47) (λ s. h.1 (eqb-true b 47 s)) in
    λ i. x i || y i || z i || w i

-- words

front_by : (b : ℕ) (w bs : List ℕ) (t : Bool) → take (length w) bs ≡ w → length w ≤ length bs → (take (length (cond t [] (b ∷ w))) (b ∷ bs) ≡ cond t [] (b ∷ w)) × (length (cond t [] (b ∷ w)) ≤ length (b ∷ bs))
front_by b w bs true e h = (refl, omega arith)
front_by b w bs false e h = (ap (λ (l : List ℕ). b ∷ l) e, omega (arith, h))

word_taken : (bs : List ℕ) → (take (length (word_front bs)) bs ≡ word_front bs) × (length (word_front bs) ≤ length bs)
word_taken [] = (refl, omega arith)
word_taken (b ∷ bs) = let more = word_taken bs in front_by b (word_front bs) bs (ends_word b bs) more.0 more.1

word_whole : (bs : List ℕ) → word_front bs ++ drop (length (word_front bs)) bs ≡ bs
word_whole bs = ap (λ (l : List ℕ). l ++ drop (length (word_front bs)) bs) (sym (word_taken bs).0) ∙ take-append-drop (length (word_front bs)) bs

-- a byte before a word and what stands after it
before : (b : ℕ) (w bs : List ℕ) → EndsNone b bs → w ++ drop (length w) bs ≡ bs → IsInWord w (drop (length w) bs) → IsInWord (b ∷ w) (drop (length w) bs)
before b w bs h whole more = (h.0, λ s o. h.1 s (subst OpensComment whole o), more)

goes_by : (b : ℕ) (w bs : List ℕ) (t : Bool) → ends_word b bs ≡ t → w ++ drop (length w) bs ≡ bs → IsInWord w (drop (length w) bs) → IsInWord (cond t [] (b ∷ w)) (drop (length (cond t [] (b ∷ w))) (b ∷ bs))
goes_by b w bs true e whole more = tt
goes_by b w bs false e whole more = before b w bs (ends_none b bs e) whole more

word_goes : (bs : List ℕ) → IsInWord (word_front bs) (drop (length (word_front bs)) bs)
word_goes [] = tt
word_goes (b ∷ bs) = goes_by b (word_front bs) bs (ends_word b bs) refl (word_whole bs) (word_goes bs)

goes_far : (xs rest : List ℕ) → IsInWord xs rest → length xs ≤ length (word_front (xs ++ rest))
goes_far [] rest g = omega arith
goes_far (x ∷ xs) rest g =
    let more = goes_far xs rest g.2 in
    subst (λ (t : Bool). suc (length xs) ≤ length (cond t [] (x ∷ word_front (xs ++ rest)))) (sym (none_ends x (xs ++ rest) (g.0, g.1))) (omega (arith, more))

abbrev word_of : ℕ → List ℕ → Piece Word
word_of n all = token_of (kind.Word (role_of (take (suc n) all))) n all

word_is : (b : ℕ) (bs : List ℕ) → word_piece (b ∷ bs) ≡ word_of (length (word_front bs)) (b ∷ bs)
word_is b bs = ap (λ (l : List ℕ). word_of (length (word_front l)) (b ∷ bs)) (drop_none bs)

word_cut : (b : ℕ) (bs : List ℕ) → EndsNone b bs → IsCut IsOne IsBetween HasNoLimit (b ∷ bs) (word_piece (b ∷ bs))
word_cut b bs h =
    let w = word_front bs in
    let taken = word_taken bs in
    let few : length w ≤ length bs = taken.1 in
    subst (IsCut IsOne IsBetween HasNoLimit (b ∷ bs)) (sym (word_is b bs))
    (omega (arith, few), subst (λ (l : List ℕ). IsOne (b ∷ l) (drop (length w) bs)) (sym taken.0) (AWord (before b w bs h (word_whole bs) (word_goes bs))))

word_reaches : (b : ℕ) (bs rest : List ℕ) → IsInWord bs rest → Reaches (length (b ∷ bs)) (word_piece (b ∷ (bs ++ rest)))
word_reaches b bs rest g = let far = goes_far bs rest g in subst (Reaches (length (b ∷ bs))) (sym (word_is b (bs ++ rest))) (omega (arith, far))

-- texts

abbrev quoted : ℕ → List ℕ → List ℕ → Piece Word
quoted n text left = cond (starts 34 left) (Token (λ at. record { kind = kind.Text; text = text; place = at }) n) (Wrong Grammar)

none_of_three : (t : Bool) → cond t false true ≡ true → t ≡ false
none_of_three true e = absurd cc
none_of_three false e = refl

text_byte_is : (b : ℕ) → is_text_byte b ≡ true → Contains (34 ∷ 10 ∷ 13 ∷ []) b → ⊥
text_byte_is b e = contains_not (34 ∷ 10 ∷ 13 ∷ []) b (none_of_three (b == 34 || b == 10 || b == 13) e)

is_in_text : (b : ℕ) → (Contains (34 ∷ 10 ∷ 13 ∷ []) b → ⊥) → is_text_byte b ≡ true
is_in_text b none = ap (λ (t : Bool). cond t false true) (not_contained (34 ∷ 10 ∷ 13 ∷ []) b none)

text_is : (bs : List ℕ) → text_piece (34 ∷ bs) ≡ quoted (suc (length (front is_text_byte bs))) (front is_text_byte bs) (drop (length (front is_text_byte bs)) bs)
text_is bs =
    ap (λ (l : List ℕ). quoted (length (front is_text_byte l) + 1) (front is_text_byte l) (rest_behind is_text_byte l)) (drop_none bs)
    ∙ ap (λ (n : ℕ). quoted n (front is_text_byte bs) (rest_behind is_text_byte bs)) (add-one (length (front is_text_byte bs)))
    ∙ ap (λ (l : List ℕ). quoted (suc (length (front is_text_byte bs))) (front is_text_byte bs) l) (sym (drop_front is_text_byte bs))

text_cut : (bs : List ℕ) → IsCut IsOne IsBetween HasNoLimit (34 ∷ bs) (text_piece (34 ∷ bs))
text_cut bs =
    let run = front is_text_byte bs in
    subst (IsCut IsOne IsBetween HasNoLimit (34 ∷ bs)) (sym (text_is bs)) (
    cut_if IsOne IsBetween HasNoLimit (34 ∷ bs) (starts 34 (drop (length run) bs)) (Token (λ at. record { kind = kind.Text; text = run; place = at }) (suc (length run))) (Wrong Grammar)
    (λ e. let h = closes is_text_byte 34 bs e in (omega (arith, h.0), subst (λ (l : List ℕ). IsOne (34 ∷ l) (drop (suc (length run)) bs)) (sym h.1) (AText run (All-weaker (λ c. is_text_byte c ≡ true) (λ c. Contains (34 ∷ 10 ∷ 13 ∷ []) c → ⊥) text_byte_is run (front_run is_text_byte bs)))))
    (λ e. inl refl)
    )

text_reaches : (bs rest : List ℕ) → All (λ c. is_text_byte c ≡ true) bs → Reaches (length (34 ∷ (bs ++ 34 ∷ []))) (text_piece (34 ∷ ((bs ++ 34 ∷ []) ++ rest)))
text_reaches bs rest a =
    let l = (bs ++ 34 ∷ []) ++ rest in
    let run = closed_front is_text_byte 34 bs rest a refl in
    let closed : starts 34 (drop (length bs) l) ≡ true = ap (starts 34) (closed_behind 34 bs rest) in
    subst (Reaches (length (34 ∷ (bs ++ 34 ∷ [])))) (sym (text_is l ∙ ap (λ (w : List ℕ). quoted (suc (length w)) w (drop (length w) l)) run)) (
    reaches_if (length (34 ∷ (bs ++ 34 ∷ []))) (starts 34 (drop (length bs) l)) (Token (λ at. record { kind = kind.Text; text = bs; place = at }) (suc (length bs))) (Wrong Grammar)
    (λ e. omega (arith, length-append bs (34 ∷ [])))
    (λ e. absurd (cc (closed, e)))
    )

-- each piece

sign_no_quote : (b : ℕ) → is_sign b ≡ true → (b == 34) ≡ false
sign_no_quote b s = grind (arith, nat_tests, s)

abbrev sign_or : ℕ → List ℕ → Piece Word
sign_or b all = cond (is_sign b) (sign_piece b all) (word_piece all)

cut : (bs : List ℕ) → blank bs ≡ Other → IsCut IsOne IsBetween HasNoLimit bs (piece bs)
cut [] o = tt
cut (b ∷ bs) o =
    let all = b ∷ bs in
    let none = begins_none b bs o in
    cut_if IsOne IsBetween HasNoLimit all (b == 34) (text_piece all) (sign_or b all)
    (λ q. subst (λ (k : ℕ). IsCut IsOne IsBetween HasNoLimit (k ∷ bs) (text_piece (k ∷ bs))) (sym (eqb-true b 34 q)) (text_cut bs))
    (λ q. cut_if IsOne IsBetween HasNoLimit all (is_sign b) (sign_piece b all) (word_piece all) (λ s. byte_is_cut IsOne b bs (ASign (contains (codes ",;!{}") b s)))
    (λ s. word_cut b bs (contains_not none_of_a_word b (none_from b none.0 s q), none.1)))

reaches : (xs rest : List ℕ) → IsOne xs rest → (blank (xs ++ rest) ≡ Other) × Reaches (length xs) (piece (xs ++ rest))
reaches xs rest (AText bs a) = (refl, text_reaches bs rest (All-weaker (λ c. Contains (34 ∷ 10 ∷ 13 ∷ []) c → ⊥) (λ c. is_text_byte c ≡ true) is_in_text bs a))
reaches xs rest (ASign {b} c) =
    let all = b ∷ rest in
    let s : is_sign b ≡ true = contained (codes ",;!{}") b c in (
      passing_begins is_sign b rest s refl refl refl refl refl,
      reaches_if 1 (b == 34) (text_piece all) (sign_or b all) (λ q. let no_quote = sign_no_quote b s in absurd (cc (q, no_quote)))
          (λ q. reaches_if 1 (is_sign b) (sign_piece b all) (word_piece all) (λ e. omega arith) (λ e. absurd (cc (s, e)))),
    )
reaches xs rest (AWord {b} {bs} g) =
    let all = b ∷ (bs ++ rest) in
    let none : among none_of_a_word b ≡ false = not_contained none_of_a_word b g.0 in
    let no_quote = no_quote_from b none in
    let no_sign = no_sign_from b none in (
      none_begins b (bs ++ rest) (no_blank_from b none, g.1),
      reaches_if (length (b ∷ bs)) (b == 34) (text_piece all) (sign_or b all) (λ q. absurd (cc (q, no_quote)))
          (λ q. reaches_if (length (b ∷ bs)) (is_sign b) (sign_piece b all) (word_piece all) (λ s. absurd (cc (s, no_sign))) (λ s. word_reaches b bs rest g.2)),
    )

pub is_longest : IsLongestMatch IsOne IsBetween HasNoLimit (past_blanks piece)
is_longest = longest_past_blanks IsOne HasNoLimit piece cut reaches (λ bs f none. absurd none)

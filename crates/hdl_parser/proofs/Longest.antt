-- Each token of an HDL text is the longest that begins where it begins, between blanks and comments.
use Rattle.std.proofs.Common.{◌≡◌, ℕ, true, cond, List, [], ◌∷◌, ◌++◌, length, drop, refl, sym, ap, subst, arith, inl}
use Rattle.std.specs.Prelude.{codes}
use Rattle.std.specs.Str.{bytes_eq}
use Rattle.std.proofs.lemmas.List.Elements.{All-cons, All-head}
use Rattle.std.proofs.lemmas.Bool.Decides.{nat_tests}
use Rattle.scan_text.specs.declared.Blank.TheVariants.{Other}
use Rattle.scan_text.specs.Text.{is_digit, digits}
use Rattle.scan_text.specs.Blanks.{blank}
use Rattle.grammar.specs.declared.Fault.TheVariants.{Grammar}
use Rattle.grammar.specs.Between.{IsBetween}
use Rattle.grammar.specs.Cutting.{Piece, Wrong, past_blanks}
use Rattle.grammar.specs.Longest.{IsLongestMatch, HasNoLimit}
use Rattle.grammar.proofs.Spaced.{take_none}
use Rattle.grammar.proofs.Longest.{IsCut, Reaches, cut_if, reaches_if, front_run, run_is_cut, byte_is_cut, run_reached, no_digit, front_is}
use Rattle.grammar.proofs.Blanks as blanks
use Rattle.grammar.proofs.Bytes.{contained, contains}
use Rattle.grammar.proofs.Blanks.{letter_is, name_run, is_name_run, passing_begins, longest_past_blanks}
use Rattle.hdl_tree.specs.Writable.{is_letter, is_name_byte}
use Rattle.hdl_parser.specs.declared.token.Kind.TheVariants as kind
use Rattle.hdl_parser.specs.Tokens.{Word, piece, token_of, word_piece, symbol_piece, number_piece, dots_piece, begins_dots, is_sign}
use Rattle.hdl_parser.specs.OneToken.{IsOne, AWord, ANumber, ASymbol, TwoDots}

-- the pieces that are left when the tests before them fail
abbrev number_or : ℕ → List ℕ → Piece Word
number_or b all = cond (is_digit b) (number_piece all) (dots_piece all)

abbrev symbol_or : ℕ → List ℕ → Piece Word
symbol_or b all = cond (is_sign b) (symbol_piece b all) (number_or b all)

letter_in_name : (b : ℕ) → is_letter b ≡ true → is_name_byte b ≡ true
letter_in_name b e = rw e refl

sign_is_no_letter : (b : ℕ) → is_sign b ≡ true → is_letter b ≡ true → ⊥
sign_is_no_letter b s l = grind (arith, nat_tests, s, l)

dots_cut : (bs : List ℕ) → IsCut IsOne IsBetween HasNoLimit bs (dots_piece bs)
dots_cut bs =
    cut_if IsOne IsBetween HasNoLimit bs (begins_dots bs) (token_of kind.Dots 1 bs) (Wrong Grammar)
    (λ e. let h = front_is (codes "..") bs e in (h.0, subst (λ (l : List ℕ). IsOne l (drop 2 bs)) (sym h.1) TwoDots)) (λ e. inl refl)

cut : (bs : List ℕ) → blank bs ≡ Other → IsCut IsOne IsBetween HasNoLimit bs (piece bs)
cut [] o = tt
cut (b ∷ bs) o =
    let all = b ∷ bs in
    cut_if IsOne IsBetween HasNoLimit all (is_letter b) (word_piece all) (symbol_or b all)
    (λ l. run_is_cut IsOne is_name_byte b bs (letter_in_name b l) (λ rest. AWord (letter_is b l) (name_run bs)))
    (λ l. cut_if IsOne IsBetween HasNoLimit all (is_sign b) (symbol_piece b all) (number_or b all)
    (λ s. byte_is_cut IsOne b bs (ASymbol (contains (codes "{}()[],;:=") b s)))
    (λ s. cut_if IsOne IsBetween HasNoLimit all (is_digit b) (number_piece all) (dots_piece all)
    (λ d. run_is_cut IsOne is_digit b bs d (λ rest. ANumber (All-cons (λ c. is_digit c ≡ true) b (digits bs) d (front_run is_digit bs))))
    (λ d. dots_cut all)))

reaches : (xs rest : List ℕ) → IsOne xs rest → (blank (xs ++ rest) ≡ Other) × Reaches (length xs) (piece (xs ++ rest))
reaches xs rest (AWord {b} {bs} h a) =
    let all = b ∷ (bs ++ rest) in
    let l : is_letter b ≡ true = blanks.is_letter b h in (
      passing_begins is_letter b (bs ++ rest) l refl refl refl refl refl,
      reaches_if (length (b ∷ bs)) (is_letter b) (word_piece all) (symbol_or b all) (λ e. run_reached is_name_byte b bs rest (is_name_run b bs h a)) (λ e. absurd (cc (l, e))),
    )
reaches xs rest (ANumber {d} {ds} a) =
    let all = d ∷ (ds ++ rest) in
    let digit : is_digit d ≡ true = All-head (λ c. is_digit c ≡ true) d ds a in
    let letter = no_digit is_letter refl d digit in
    let sign = no_digit is_sign refl d digit in (
      passing_begins is_digit d (ds ++ rest) digit refl refl refl refl refl,
      reaches_if (length (d ∷ ds)) (is_letter d) (word_piece all) (symbol_or d all) (λ e. absurd (cc (letter, e)))
          (λ l. reaches_if (length (d ∷ ds)) (is_sign d) (symbol_piece d all) (number_or d all) (λ e. absurd (cc (sign, e)))
          (λ s. reaches_if (length (d ∷ ds)) (is_digit d) (number_piece all) (dots_piece all) (λ e. run_reached is_digit d ds rest a) (λ e. absurd (cc (digit, e))))),
    )
reaches xs rest (ASymbol {b} c) =
    let all = b ∷ rest in
    let s : is_sign b ≡ true = contained (codes "{}()[],;:=") b c in (
      passing_begins is_sign b rest s refl refl refl refl refl,
      reaches_if 1 (is_letter b) (word_piece all) (symbol_or b all) (λ e. absurd (sign_is_no_letter b s e))
          (λ l. reaches_if 1 (is_sign b) (symbol_piece b all) (number_or b all) (λ e. omega arith) (λ e. absurd (cc (s, e)))),
    )
reaches xs rest TwoDots =
    let all = 46 ∷ 46 ∷ rest in
    let here : begins_dots all ≡ true = ap (λ (l : List ℕ). bytes_eq (46 ∷ 46 ∷ l) (codes "..")) (take_none rest) in (
      refl,
      reaches_if 2 (begins_dots all) (token_of kind.Dots 1 all) (Wrong Grammar) (λ e. omega arith) (λ e. absurd (cc (here, e))),
    )

pub is_longest : IsLongestMatch IsOne IsBetween HasNoLimit (past_blanks piece)
is_longest = longest_past_blanks IsOne HasNoLimit piece cut reaches (λ bs f none. absurd none)

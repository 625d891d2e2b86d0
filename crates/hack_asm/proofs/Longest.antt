-- Each token of an assembly text is the longest that begins where it begins, and what may stand between tokens is passed over.
use Rattle.std.proofs.Common.{◌≡◌, ℕ, suc, ◌-◌, Bool, true, cond, List, [], ◌∷◌, ◌++◌, length, take, drop, refl, sym, subst, ap, arith}
use Rattle.std.specs.Prelude.{◌==◌, ◌||◌, codes}
use Rattle.std.specs.List.{All}
use Rattle.std.specs.Char.{is_ascii_alphabetic}
use Rattle.std.specs.Str.{bytes_eq}
use Rattle.std.proofs.lemmas.List.Elements.{All-cons, All-head}
use Rattle.std.proofs.lemmas.Bool.Decides.{nat_tests}
use Rattle.scan_text.specs.declared.Place.{Place}
use Rattle.scan_text.specs.Text.{front, is_digit, digits, decimal, capped_count}
use Rattle.grammar.specs.Between.{IsBetweenInLine, ASpace, ATab}
use Rattle.grammar.specs.declared.Fault.{Fault}
use Rattle.grammar.specs.Cutting.{Piece, Passed, Wrong}
use Rattle.grammar.specs.Lines.{comment_piece, line_end_piece}
use Rattle.grammar.specs.Longest.{IsLongestMatch, IsOver}
use Rattle.grammar.proofs.Bytes.{account_of, test_of, contains, contained, run_account, run_test}
use Rattle.grammar.proofs.InLine.{blank_is_cut, comment_is_cut, passes_between, over_refused}
use Rattle.grammar.proofs.Longest as longest
use Rattle.grammar.proofs.Longest.{IsCut, Reaches, cut_if, reaches_if, front_run, run_is_cut, byte_is_cut, run_reached, no_digit, limited_is_cut, limited_reaches, end_is_cut, front_is}
use Rattle.grammar.proofs.Spaced.{take_none}
use Rattle.hack_asm.specs.declared.token.Kind.TheVariants.{Sign, Number}
use Rattle.hack_asm.specs.Tokens.{Word, made_word, word_of, number_piece, symbol_piece, line_end_token, piece, is_letter, is_symbol_byte, is_sign, begins_left_shift, begins_right_shift, shift_piece}
use Rattle.hack_asm.specs.OneToken.{IsOne, ASymbol, ANumber, ASign, ALeftShift, ARightShift, ALineFeed, AReturnAndLineFeed}

-- the pieces that are left when the tests before them fail
abbrev right_or : List ℕ → Piece Word
right_or all = cond (begins_right_shift all) (word_of (Sign 62) 1 all) (line_end_piece line_end_token all)

abbrev comment_or : ℕ → List ℕ → Piece Word
comment_or b all = cond (b == 47) (comment_piece all) (shift_piece all)

abbrev sign_or : ℕ → List ℕ → Piece Word
sign_or b all = cond (is_sign b) (word_of (Sign b) 0 all) (comment_or b all)

abbrev symbol_or : ℕ → List ℕ → Piece Word
symbol_or b all = cond (is_letter b) (symbol_piece all) (sign_or b all)

abbrev number_or : ℕ → List ℕ → Piece Word
number_or b all = cond (is_digit b) (number_piece all) (symbol_or b all)

abbrev blank_byte : ℕ → Bool
blank_byte b = b == 32 || b == 9

-- the token of a number at the front
abbrev number : List ℕ → Place → Word
number all = made_word (Number (capped_count (decimal 0 (digits all)))) (take (suc (length (digits all) - 1)) all)

-- the signs of symbols, and the tokens of one sign
abbrev marks : List ℕ
marks = codes "_.$:"

abbrev signs : List ℕ
signs = codes "@()=;+-!&|"

letter_in_symbol : (b : ℕ) → is_letter b ≡ true → is_symbol_byte b ≡ true
letter_in_symbol b e = rw e refl

letter_is_no_blank : (b : ℕ) → is_letter b ≡ true → blank_byte b ≡ true → ⊥
letter_is_no_blank b l e = grind (arith, nat_tests, l, e)

sign_is_no_blank : (b : ℕ) → is_sign b ≡ true → blank_byte b ≡ true → ⊥
sign_is_no_blank b s e = grind (arith, nat_tests, s, e)

sign_is_no_letter : (b : ℕ) → is_sign b ≡ true → is_letter b ≡ true → ⊥
sign_is_no_letter b s l = grind (arith, nat_tests, s, l)

shift_cut : (all : List ℕ) → IsCut IsOne IsBetweenInLine (IsOver 32767) all (shift_piece all)
shift_cut all =
    cut_if IsOne IsBetweenInLine (IsOver 32767) all (begins_left_shift all) (word_of (Sign 60) 1 all) (right_or all)
    (λ e. let h = front_is (codes "<<") all e in (h.0, subst (λ (l : List ℕ). IsOne l (drop 2 all)) (sym h.1) ALeftShift))
    (λ e. cut_if IsOne IsBetweenInLine (IsOver 32767) all (begins_right_shift all) (word_of (Sign 62) 1 all) (line_end_piece line_end_token all)
    (λ f. let h = front_is (codes ">>") all f in (h.0, subst (λ (l : List ℕ). IsOne l (drop 2 all)) (sym h.1) ARightShift))
    (λ f. end_is_cut Word IsOne IsBetweenInLine (IsOver 32767) line_end_token (λ behind. ALineFeed) (λ behind. AReturnAndLineFeed) all))

cut : (bs : List ℕ) → IsCut IsOne IsBetweenInLine (IsOver 32767) bs (piece bs)
cut [] = tt
cut (b ∷ bs) =
    let all = b ∷ bs in
    cut_if IsOne IsBetweenInLine (IsOver 32767) all (blank_byte b) (Passed 0) (number_or b all) (λ e. blank_is_cut Word IsOne IsBetweenInLine (IsOver 32767) (λ behind. ASpace) (λ behind. ATab) b bs e)
    (λ e. cut_if IsOne IsBetweenInLine (IsOver 32767) all (is_digit b) (number_piece all) (symbol_or b all)
    (λ d. limited_is_cut IsOne IsBetweenInLine (number all) b bs d (λ behind. ANumber (All-cons (λ c. is_digit c ≡ true) b (digits bs) d (front_run is_digit bs))))
    (λ d. cut_if IsOne IsBetweenInLine (IsOver 32767) all (is_letter b) (symbol_piece all) (sign_or b all) (λ l. run_is_cut IsOne is_symbol_byte b bs (letter_in_symbol b l) (λ behind. ASymbol (account_of (is_ascii_alphabetic b) marks b l) (run_account is_ascii_alphabetic marks (front is_symbol_byte bs) (front_run is_symbol_byte bs))))
    (λ l. cut_if IsOne IsBetweenInLine (IsOver 32767) all (is_sign b) (word_of (Sign b) 0 all) (comment_or b all) (λ s. byte_is_cut IsOne b bs (ASign (contains signs b s)))
    (λ s. cut_if IsOne IsBetweenInLine (IsOver 32767) all (b == 47) (comment_piece all) (shift_piece all) (λ s. comment_is_cut Word IsOne (IsOver 32767) b bs s)
    (λ s. shift_cut all)))))

reaches : (xs rest : List ℕ) → IsOne xs rest → Reaches (length xs) (piece (xs ++ rest))
reaches xs rest (ASymbol {b} {bs} h i) =
    let all = b ∷ (bs ++ rest) in
    let l : is_letter b ≡ true = test_of (is_ascii_alphabetic b) marks b h in
    let a : All (λ c. is_symbol_byte c ≡ true) bs = run_test is_ascii_alphabetic marks bs i in
    reaches_if (length (b ∷ bs)) (blank_byte b) (Passed 0) (number_or b all) (λ e. letter_is_no_blank b l e)
    (λ e. reaches_if (length (b ∷ bs)) (is_digit b) (number_piece all) (symbol_or b all) (λ d. let no = no_digit is_letter refl b d in absurd (cc (l, no)))
    (λ d. reaches_if (length (b ∷ bs)) (is_letter b) (symbol_piece all) (sign_or b all)
    (λ e. run_reached is_symbol_byte b bs rest (All-cons (λ c. is_symbol_byte c ≡ true) b bs (letter_in_symbol b l) a)) (λ e. absurd (cc (l, e)))))
reaches xs rest (ANumber {d} {ds} a) =
    let all = d ∷ (ds ++ rest) in
    let digit : is_digit d ≡ true = All-head (λ c. is_digit c ≡ true) d ds a in
    let blank = no_digit blank_byte refl d digit in
    reaches_if (length (d ∷ ds)) (blank_byte d) (Passed 0) (number_or d all) (λ e. absurd (cc (blank, e)))
    (λ e. reaches_if (length (d ∷ ds)) (is_digit d) (number_piece all) (symbol_or d all) (λ e. limited_reaches (number all) d ds rest a) (λ e. absurd (cc (digit, e))))
reaches xs rest (ASign {b} h) =
    let all = b ∷ rest in
    let s : is_sign b ≡ true = contained signs b h in
    reaches_if 1 (blank_byte b) (Passed 0) (number_or b all) (λ e. sign_is_no_blank b s e)
    (λ e. reaches_if 1 (is_digit b) (number_piece all) (symbol_or b all) (λ d. let no = no_digit is_sign refl b d in absurd (cc (s, no)))
    (λ d. reaches_if 1 (is_letter b) (symbol_piece all) (sign_or b all) (λ l. absurd (sign_is_no_letter b s l))
    (λ l. reaches_if 1 (is_sign b) (word_of (Sign b) 0 all) (comment_or b all) (λ e. omega arith) (λ e. absurd (cc (s, e))))))
reaches xs rest ALeftShift =
    let all = 60 ∷ 60 ∷ rest in
    let here : begins_left_shift all ≡ true = ap (λ (l : List ℕ). bytes_eq (60 ∷ 60 ∷ l) (codes "<<")) (take_none rest) in
    reaches_if 2 (begins_left_shift all) (word_of (Sign 60) 1 all) (right_or all) (λ e. omega arith) (λ e. absurd (cc (here, e)))
reaches xs rest ARightShift =
    let all = 62 ∷ 62 ∷ rest in
    let here : begins_right_shift all ≡ true = ap (λ (l : List ℕ). bytes_eq (62 ∷ 62 ∷ l) (codes ">>")) (take_none rest) in
    reaches_if 2 (begins_right_shift all) (word_of (Sign 62) 1 all) (line_end_piece line_end_token all) (λ e. omega arith) (λ e. absurd (cc (here, e)))
reaches xs rest ALineFeed = omega arith
reaches xs rest AReturnAndLineFeed = omega arith

passes : (b : ℕ) (bs behind : List ℕ) → IsBetweenInLine (b ∷ bs) behind → piece (b ∷ (bs ++ behind)) ≡ Passed (length bs)
passes = passes_between piece (λ bs. refl) (λ bs. refl) (λ bs. refl)

refuses : (bs : List ℕ) (f : Place → Fault) → IsOver 32767 bs f → piece bs ≡ Wrong f
refuses = over_refused piece number symbol_or (λ b bs. refl)

pub longest_match : IsLongestMatch IsOne IsBetweenInLine (IsOver 32767) piece
longest_match = longest.longest_match IsOne IsBetweenInLine (IsOver 32767) piece cut reaches passes refuses

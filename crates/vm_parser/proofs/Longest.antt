-- Each token of a VM text is the longest that begins where it begins, and what may stand between tokens is passed over.
use Rattle.std.proofs.Common.{◌≡◌, ℕ, ◌≤◌, Bool, true, cond, List, [], ◌∷◌, ◌++◌, length, drop, refl, sym, ap, subst, arith}
use Rattle.std.specs.Prelude.{◌==◌, ◌||◌, codes}
use Rattle.std.specs.Char.{is_ascii_alphabetic}
use Rattle.std.specs.List.{All}
use Rattle.std.specs.Str.{bytes_eq}
use Rattle.std.proofs.lemmas.List.Elements.{All-cons, All-head, All-tail}
use Rattle.std.proofs.lemmas.Bool.Decides.{nat_tests}
use Rattle.scan_text.specs.declared.Place.{Place}
use Rattle.scan_text.specs.Text.{front, is_digit, digits, decimal, capped_count}
use Rattle.grammar.specs.Between.{IsBetweenInLine, ASpace, ATab}
use Rattle.grammar.specs.declared.Fault.{Fault}
use Rattle.grammar.specs.Cutting.{Piece, Passed, Wrong}
use Rattle.grammar.specs.Lines.{comment_piece, line_end_piece}
use Rattle.grammar.specs.Longest.{IsLongestMatch, IsOver}
use Rattle.grammar.proofs.Bytes.{account_of, test_of, run_account, run_test}
use Rattle.grammar.proofs.InLine.{blank_is_cut, comment_is_cut, passes_between, over_refused}
use Rattle.grammar.proofs.Spaced.{take_none}
use Rattle.grammar.proofs.Longest as longest
use Rattle.grammar.proofs.Longest.{IsCut, Reaches, cut_if, reaches_if, front_run, run_is_cut, run_reached, no_digit, limited_is_cut, limited_reaches, front_is, end_is_cut}
use Rattle.vm_parser.specs.declared.token.Kind.TheVariants as kind
use Rattle.vm_parser.specs.Tokens.{Word, made_word, line_end_token, piece, begins_name, is_name_byte, begins_if_goto, number_piece, word_piece, name_piece, if_goto_piece}
use Rattle.vm_parser.specs.OneToken.{IsOne, AWord, IfGoto, ANumber, ALineFeed, AReturnAndLineFeed}

-- the pieces that are left when the tests before them fail
abbrev comment_or : ℕ → List ℕ → Piece Word
comment_or b all = cond (b == 47) (comment_piece all) (line_end_piece line_end_token all)

abbrev word_or : ℕ → List ℕ → Piece Word
word_or b all = cond (begins_name b) (word_piece all) (comment_or b all)

abbrev number_or : ℕ → List ℕ → Piece Word
number_or b all = cond (is_digit b) (number_piece all) (word_or b all)

abbrev blank_byte : ℕ → Bool
blank_byte b = b == 32 || b == 9

-- the token of a number at the front
abbrev number : List ℕ → Place → Word
number all = made_word (kind.Number (capped_count (decimal 0 (digits all))))

-- the signs of names
abbrev signs : List ℕ
signs = codes "_.$:"

begins_in_name : (b : ℕ) → begins_name b ≡ true → is_name_byte b ≡ true
begins_in_name b e = rw e refl

name_is_no_blank : (b : ℕ) → begins_name b ≡ true → blank_byte b ≡ true → ⊥
name_is_no_blank b n e = grind (arith, nat_tests, n, e)

-- where `if-goto` stands, a word has at most two bytes
word_within : (b : ℕ) (bs rest : List ℕ) → All (λ c. is_name_byte c ≡ true) bs → begins_if_goto (b ∷ (bs ++ rest)) ≡ true → length (b ∷ bs) ≤ 7
word_within b [] rest a e = omega arith
word_within b (c ∷ []) rest a e = omega arith
word_within b (c ∷ d ∷ bs) rest a e =
    let front = front_is (codes "if-goto") (b ∷ c ∷ d ∷ (bs ++ rest)) e in
    let same : d ≡ 45 = cc front.1 in
    let name = All-head (λ c. is_name_byte c ≡ true) d bs (All-tail (λ c. is_name_byte c ≡ true) c (d ∷ bs) a) in
    let no : is_name_byte 45 ≡ true = subst (λ (k : ℕ). is_name_byte k ≡ true) same name in
    absurd cc

word_cut : (b : ℕ) (bs : List ℕ) → begins_name b ≡ true → IsCut IsOne IsBetweenInLine (IsOver 32767) (b ∷ bs) (word_piece (b ∷ bs))
word_cut b bs n =
    cut_if IsOne IsBetweenInLine (IsOver 32767) (b ∷ bs) (begins_if_goto (b ∷ bs)) if_goto_piece (name_piece (b ∷ bs))
    (λ e. let h = front_is (codes "if-goto") (b ∷ bs) e in (h.0, subst (λ (l : List ℕ). IsOne l (drop 7 (b ∷ bs))) (sym h.1) IfGoto))
    (λ e. run_is_cut IsOne is_name_byte b bs (begins_in_name b n) (λ behind. AWord (account_of (is_ascii_alphabetic b) signs b n) (run_account is_ascii_alphabetic signs (front is_name_byte bs) (front_run is_name_byte bs))))

word_reaches : (b : ℕ) (bs rest : List ℕ) → begins_name b ≡ true → All (λ c. is_name_byte c ≡ true) bs → Reaches (length (b ∷ bs)) (word_piece (b ∷ (bs ++ rest)))
word_reaches b bs rest n a =
    reaches_if (length (b ∷ bs)) (begins_if_goto (b ∷ (bs ++ rest))) if_goto_piece (name_piece (b ∷ (bs ++ rest)))
    (λ e. word_within b bs rest a e) (λ e. run_reached is_name_byte b bs rest (All-cons (λ c. is_name_byte c ≡ true) b bs (begins_in_name b n) a))

if_goto_reaches : (rest : List ℕ) → Reaches 7 (word_piece (codes "if-goto" ++ rest))
if_goto_reaches rest =
    let all = codes "if-goto" ++ rest in
    let here : begins_if_goto all ≡ true = ap (λ (l : List ℕ). bytes_eq (codes "if-goto" ++ l) (codes "if-goto")) (take_none rest) in
    reaches_if 7 (begins_if_goto all) if_goto_piece (name_piece all) (λ e. omega arith) (λ e. absurd (cc (here, e)))

cut : (bs : List ℕ) → IsCut IsOne IsBetweenInLine (IsOver 32767) bs (piece bs)
cut [] = tt
cut (b ∷ bs) =
    let all = b ∷ bs in
    cut_if IsOne IsBetweenInLine (IsOver 32767) all (blank_byte b) (Passed 0) (number_or b all) (λ e. blank_is_cut Word IsOne IsBetweenInLine (IsOver 32767) (λ behind. ASpace) (λ behind. ATab) b bs e)
    (λ e. cut_if IsOne IsBetweenInLine (IsOver 32767) all (is_digit b) (number_piece all) (word_or b all)
    (λ d. limited_is_cut IsOne IsBetweenInLine (number all) b bs d (λ behind. ANumber (All-cons (λ c. is_digit c ≡ true) b (digits bs) d (front_run is_digit bs))))
    (λ d. cut_if IsOne IsBetweenInLine (IsOver 32767) all (begins_name b) (word_piece all) (comment_or b all) (λ n. word_cut b bs n)
    (λ n. cut_if IsOne IsBetweenInLine (IsOver 32767) all (b == 47) (comment_piece all) (line_end_piece line_end_token all) (λ s. comment_is_cut Word IsOne (IsOver 32767) b bs s)
    (λ s. end_is_cut Word IsOne IsBetweenInLine (IsOver 32767) line_end_token (λ behind. ALineFeed) (λ behind. AReturnAndLineFeed) all))))

reaches : (xs rest : List ℕ) → IsOne xs rest → Reaches (length xs) (piece (xs ++ rest))
reaches xs rest (AWord {b} {bs} h i) =
    let all = b ∷ (bs ++ rest) in
    let n : begins_name b ≡ true = test_of (is_ascii_alphabetic b) signs b h in
    let a : All (λ c. is_name_byte c ≡ true) bs = run_test is_ascii_alphabetic signs bs i in
    reaches_if (length (b ∷ bs)) (blank_byte b) (Passed 0) (number_or b all) (λ e. name_is_no_blank b n e)
    (λ e. reaches_if (length (b ∷ bs)) (is_digit b) (number_piece all) (word_or b all) (λ d. let no = no_digit begins_name refl b d in absurd (cc (n, no)))
    (λ d. reaches_if (length (b ∷ bs)) (begins_name b) (word_piece all) (comment_or b all) (λ e. word_reaches b bs rest n a) (λ e. absurd (cc (n, e)))))
reaches xs rest IfGoto = if_goto_reaches rest
reaches xs rest (ANumber {d} {ds} a) =
    let all = d ∷ (ds ++ rest) in
    let digit : is_digit d ≡ true = All-head (λ c. is_digit c ≡ true) d ds a in
    let blank = no_digit blank_byte refl d digit in
    reaches_if (length (d ∷ ds)) (blank_byte d) (Passed 0) (number_or d all) (λ e. absurd (cc (blank, e)))
    (λ e. reaches_if (length (d ∷ ds)) (is_digit d) (number_piece all) (word_or d all) (λ e. limited_reaches (number all) d ds rest a) (λ e. absurd (cc (digit, e))))
reaches xs rest ALineFeed = omega arith
reaches xs rest AReturnAndLineFeed = omega arith

passes : (b : ℕ) (bs behind : List ℕ) → IsBetweenInLine (b ∷ bs) behind → piece (b ∷ (bs ++ behind)) ≡ Passed (length bs)
passes = passes_between piece (λ bs. refl) (λ bs. refl) (λ bs. refl)

refuses : (bs : List ℕ) (f : Place → Fault) → IsOver 32767 bs f → piece bs ≡ Wrong f
refuses = over_refused piece number word_or (λ b bs. refl)

pub longest_match : IsLongestMatch IsOne IsBetweenInLine (IsOver 32767) piece
longest_match = longest.longest_match IsOne IsBetweenInLine (IsOver 32767) piece cut reaches passes refuses

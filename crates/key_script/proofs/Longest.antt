-- Each token of a key script is the longest that begins where it begins, and between tokens spaces and tabs are passed over.
use Rattle.std.proofs.Common.{◌≡◌, ℕ, Bool, true, cond, List, [], ◌∷◌, ◌++◌, length, refl, arith}
use Rattle.std.specs.Prelude.{◌==◌, ◌||◌}
use Rattle.std.proofs.lemmas.List.Elements.{All-cons, All-head}
use Rattle.scan_text.specs.Text.{is_digit, digits}
use Rattle.grammar.specs.Cutting.{Piece, Passed}
use Rattle.grammar.specs.Lines.{line_end_piece}
use Rattle.grammar.specs.Longest.{IsLongestMatch, HasNoLimit}
use Rattle.grammar.proofs.InLine.{blank_is_cut}
use Rattle.grammar.proofs.Longest as longest
use Rattle.grammar.proofs.Longest.{IsCut, Reaches, cut_if, reaches_if, front_run, run_is_cut, run_reached, no_digit, end_is_cut}
use Rattle.key_script.specs.Tokens.{Word, number_piece, line_end_token, piece}
use Rattle.key_script.specs.OneToken.{IsOne, ANumber, ALineFeed, AReturnAndLineFeed, IsBetween, ASpace, ATab}

abbrev number_or : ℕ → List ℕ → Piece Word
number_or b all = cond (is_digit b) (number_piece all) (line_end_piece line_end_token all)

abbrev blank_byte : ℕ → Bool
blank_byte b = b == 32 || b == 9

cut : (bs : List ℕ) → IsCut IsOne IsBetween HasNoLimit bs (piece bs)
cut [] = tt
cut (b ∷ bs) =
    let all = b ∷ bs in
    cut_if IsOne IsBetween HasNoLimit all (blank_byte b) (Passed 0) (number_or b all) (λ e. blank_is_cut Word IsOne IsBetween HasNoLimit (λ behind. ASpace) (λ behind. ATab) b bs e)
    (λ e. cut_if IsOne IsBetween HasNoLimit all (is_digit b) (number_piece all) (line_end_piece line_end_token all)
    (λ d. run_is_cut IsOne is_digit b bs d (λ behind. ANumber (All-cons (λ c. is_digit c ≡ true) b (digits bs) d (front_run is_digit bs))))
    (λ d. end_is_cut Word IsOne IsBetween HasNoLimit line_end_token (λ behind. ALineFeed) (λ behind. AReturnAndLineFeed) all))

reaches : (xs rest : List ℕ) → IsOne xs rest → Reaches (length xs) (piece (xs ++ rest))
reaches xs rest (ANumber {d} {ds} a) =
    let all = d ∷ (ds ++ rest) in
    let digit : is_digit d ≡ true = All-head (λ c. is_digit c ≡ true) d ds a in
    let blank = no_digit blank_byte refl d digit in
    reaches_if (length (d ∷ ds)) (blank_byte d) (Passed 0) (number_or d all) (λ e. absurd (cc (blank, e)))
    (λ e. reaches_if (length (d ∷ ds)) (is_digit d) (number_piece all) (line_end_piece line_end_token all) (λ e. run_reached is_digit d ds rest a) (λ e. absurd (cc (digit, e))))
reaches xs rest ALineFeed = omega arith
reaches xs rest AReturnAndLineFeed = omega arith

passes : (b : ℕ) (bs behind : List ℕ) → IsBetween (b ∷ bs) behind → piece (b ∷ (bs ++ behind)) ≡ Passed (length bs)
passes b bs behind ASpace = refl
passes b bs behind ATab = refl

pub longest_match : IsLongestMatch IsOne IsBetween HasNoLimit piece
longest_match = longest.longest_match IsOne IsBetween HasNoLimit piece cut reaches passes (λ bs f none. absurd none)

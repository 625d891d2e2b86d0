-- Each token of a `.hack` text is the longest that begins where it begins, and nothing is passed over.
use Rattle.std.proofs.Common.{◌≡◌, ℕ, true, cond, List, [], ◌∷◌, ◌++◌, length, sym, subst, arith, eqb-true}
use Rattle.std.specs.Prelude.{◌==◌, false}
use Rattle.grammar.specs.Cutting.{Piece, Token}
use Rattle.grammar.specs.Lines.{line_end_piece}
use Rattle.grammar.specs.Longest.{IsLongestMatch, HasNoLimit}
use Rattle.grammar.proofs.Longest as longest
use Rattle.grammar.proofs.Longest.{IsCut, Reaches, cut_if, byte_is_cut, end_is_cut}
use Rattle.hack_asm.specs.declared.hack_tokens.Kind.TheVariants.{Digit}
use Rattle.grammar.specs.Placed.{token_at}
use Rattle.hack_asm.specs.HackTokens.{Word, line_end_token, piece}
use Rattle.hack_asm.specs.OneHackToken.{IsOneHack, Zero, One, ALineFeed, AReturnAndLineFeed, HasNoneBetween}

abbrev one_or : ℕ → List ℕ → Piece Word
one_or b all = cond (b == 49) (Token (token_at (Digit true)) 0) (line_end_piece line_end_token all)

abbrev IsCutHere : List ℕ → Piece Word → Type 0
IsCutHere = IsCut IsOneHack HasNoneBetween HasNoLimit

byte_cut : (b c : ℕ) (bs : List ℕ) → (b == c) ≡ true → IsOneHack (c ∷ []) bs → IsCutHere (b ∷ bs) (Token (token_at (Digit true)) 0)
byte_cut b c bs e one = byte_is_cut IsOneHack b bs (subst (λ (k : ℕ). IsOneHack (k ∷ []) bs) (sym (eqb-true b c e)) one)

cut : (bs : List ℕ) → IsCutHere bs (piece bs)
cut [] = tt
cut (b ∷ bs) =
    let all = b ∷ bs in
    cut_if IsOneHack HasNoneBetween HasNoLimit all (b == 48) (Token (token_at (Digit false)) 0) (one_or b all) (λ e. byte_cut b 48 bs e Zero)
    (λ e. cut_if IsOneHack HasNoneBetween HasNoLimit all (b == 49) (Token (token_at (Digit true)) 0) (line_end_piece line_end_token all) (λ e. byte_cut b 49 bs e One)
    (λ e. end_is_cut Word IsOneHack HasNoneBetween HasNoLimit line_end_token (λ behind. ALineFeed) (λ behind. AReturnAndLineFeed) all))

reaches : (xs rest : List ℕ) → IsOneHack xs rest → Reaches (length xs) (piece (xs ++ rest))
reaches xs rest Zero = omega arith
reaches xs rest One = omega arith
reaches xs rest ALineFeed = omega arith
reaches xs rest AReturnAndLineFeed = omega arith

pub longest_match : IsLongestMatch IsOneHack HasNoneBetween HasNoLimit piece
longest_match = longest.longest_match IsOneHack HasNoneBetween HasNoLimit piece cut reaches (λ b bs behind none. absurd none) (λ bs f none. absurd none)

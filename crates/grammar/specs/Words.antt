-- Words, numbers and symbols, as the languages have them whose tokens are a kind, a text and a place.
use Rattle.std.specs.Prelude.{ℕ, suc, ◌-◌, Bool, List, ◌==◌, ◌||◌, length, take}
use Rattle.std.specs.Char.{is_ascii_alphabetic}
use Rattle.scan_text.specs.declared.Place.{Place}
use Rattle.scan_text.specs.Text.{front, is_digit}
use Rattle.grammar.specs.Cutting.{Piece, Token}

-- letters and the underscore
abbrev pub is_letter : ℕ → Bool
is_letter b = is_ascii_alphabetic b || b == 95

abbrev pub is_name_byte : ℕ → Bool
is_name_byte b = is_letter b || is_digit b

-- a token of the n + 1 bytes at the front; made says what a token of a kind, a text and a place is
abbrev pub token_of : {K T : Type 0} → (K → List ℕ → Place → T) → K → ℕ → List ℕ → Piece T
token_of made kind n bs = Token (made kind (take (suc n) bs)) n

-- letters, digits and underscores, the first no digit: a token of the kind that such a text has
abbrev pub word_of : {K T : Type 0} → (K → List ℕ → Place → T) → (List ℕ → K) → List ℕ → Piece T
word_of made kind_of bs =
    let text = front is_name_byte bs in
    token_of made (kind_of text) (length text - 1) bs

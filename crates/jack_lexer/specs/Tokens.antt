-- How a Jack text is cut into tokens (book, chapter 10). Blanks (space, tab, line feed, return) and comments are passed over.
use Rattle.std.specs.Prelude.{ℕ, ◌+◌, ◌-◌, Bool, true, false, List, Option, Some, None, Result, ◌==◌, ◌||◌, ◌&&◌, if◌then◌else◌, length, drop, nat_le, nat_lt, min}
use Rattle.scan_text.specs.declared.Place.{Place}
use Rattle.scan_text.specs.Text.{start, walk, first, front, is_digit, digits, decimal, capped_count}
use Rattle.scan_text.specs.Blanks.{starts}
use Rattle.grammar.specs.declared.Fault.{Fault}
use Rattle.grammar.specs.declared.Fault.TheVariants.{Grammar, Range}
use Rattle.grammar.specs.Cutting.{Piece, Passed, Wrong, closes_with_nothing, tokens_between_blanks}
use Rattle.grammar.specs.Words as words
use Rattle.grammar.specs.Words.{is_letter}
use Rattle.jack_tree.specs.declared.token.Keyword.{Keyword}
use Rattle.jack_tree.specs.declared.token.Kind.{Kind}
use Rattle.jack_tree.specs.declared.token.Kind.TheVariants as kind
use Rattle.jack_tree.specs.Tokens.{Word, keyword_of}

abbrev pub is_quote : ℕ → Bool
is_quote b = b == 34

-- a tab or a printable character of ASCII, but no double quote
abbrev pub is_text_byte : ℕ → Bool
is_text_byte b = (b == 9 || (nat_le 32 b && nat_le b 126)) && (if is_quote b then false else true)

-- { } ( ) [ ] . , ; + - * / & | < > = ~, and ^ #, which are not the book's
abbrev pub is_sign : ℕ → Bool
is_sign b =
    b == 123 || b == 125 || b == 40 || b == 41 || b == 91 || b == 93 || b == 46 || b == 44 || b == 59
    || b == 43 || b == 45 || b == 42 || b == 47 || b == 38 || b == 124 || b == 60 || b == 62 || b == 61 || b == 126
    || b == 94 || b == 35

abbrev pub made_word : Kind → List ℕ → Place → Word
made_word kind text at = record { kind = kind; text = text; place = at }

-- a token of the n + 1 bytes at the front
abbrev pub token_of : Kind → ℕ → List ℕ → Piece Word
token_of = words.token_of made_word

-- decimal digits, at most 32,767
abbrev pub number_piece : List ℕ → Piece Word
number_piece bs =
    let n = capped_count (decimal 0 (digits bs)) in
    if nat_lt 32767 n then Wrong (λ at. Range at (min n 1000000000)) else token_of (kind.Integer n) (length (digits bs) - 1) bs

abbrev pub kind_of : Option Keyword → Kind
kind_of None = kind.Identifier
kind_of (Some k) = kind.Keyword k

abbrev pub word_kind : List ℕ → Kind
word_kind text = kind_of (keyword_of text)

-- letters, digits and underscores, the first no digit
abbrev pub word_piece : List ℕ → Piece Word
word_piece = words.word_of made_word word_kind

abbrev pub symbol_piece : ℕ → List ℕ → Piece Word
symbol_piece b bs = token_of (kind.Symbol b) 0 bs

-- a string in double quotes, which is closed on its line
abbrev pub text_piece : List ℕ → Piece Word
text_piece bs =
    let run = length (front is_text_byte (drop 1 bs)) in
    if starts 34 (drop (run + 1) bs) then token_of kind.Text (run + 1) bs else Wrong Grammar

-- what begins at a byte that is no blank and begins no comment
abbrev pub piece_at : Option ℕ → List ℕ → Piece Word
piece_at None bs = Passed 0
piece_at (Some b) bs =
    if is_letter b then word_piece bs
    else (if is_sign b then symbol_piece b bs
    else (if is_digit b then number_piece bs
    else (if b == 34 then text_piece bs
    else Wrong Grammar)))

abbrev pub piece : List ℕ → Piece Word
piece bs = piece_at (first bs) bs

-- the end of the text adds no token
abbrev pub close : Option Word → Place → List Word
close = closes_with_nothing

abbrev pub tokens_of : List ℕ → Result (List Word) Fault
tokens_of text = tokens_between_blanks piece text

-- the place where a text ends
abbrev pub finish : List ℕ → Place
finish text = walk start text

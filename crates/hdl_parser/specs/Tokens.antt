-- The tokens of an HDL text (book, appendix 2): words, numbers and symbols. Blanks (space, tab, line feed, return) and comments are
-- passed over.
use Rattle.std.specs.Prelude.{ℕ, ◌-◌, Bool, List, [], ◌∷◌, Option, Some, None, Result, ◌==◌, ◌||◌, if◌then◌else◌, length, take, codes}
use Rattle.std.specs.Str.{bytes_eq}
use Rattle.scan_text.specs.declared.Place.{Place}
use Rattle.scan_text.specs.Text.{start, walk, first, is_digit, digits, decimal, capped_count}
use Rattle.grammar.specs.declared.Fault.{Fault}
use Rattle.grammar.specs.declared.Fault.TheVariants.{Grammar}
use Rattle.grammar.specs.Cutting.{Piece, Passed, Wrong, tokens_between_blanks}
use Rattle.grammar.specs.Words as words
use Rattle.hdl_tree.specs.Writable.{is_letter}
use Rattle.hdl_parser.specs.declared.token.Keyword.{Keyword}
use Rattle.hdl_parser.specs.declared.token.Keyword.TheVariants as keyword
use Rattle.hdl_parser.specs.declared.token.Kind.{Kind}
use Rattle.hdl_parser.specs.declared.token.Kind.TheVariants as kind
use Rattle.hdl_parser.specs.declared.token.Token as declared

-- a token without where its text lies in memory
pub record Word : Type 0 where
  pub kind : Kind
  pub text : List ℕ
  pub place : Place

abbrev pub view : declared.Token → Word
view t = record { kind = t.kind; text = t.text.now; place = t.place }

abbrev pub keyword_text : Keyword → List ℕ
keyword_text keyword.Chip = codes "CHIP"
keyword_text keyword.In = codes "IN"
keyword_text keyword.Out = codes "OUT"
keyword_text keyword.Parts = codes "PARTS"
keyword_text keyword.Builtin = codes "BUILTIN"
keyword_text keyword.Clocked = codes "CLOCKED"
keyword_text keyword.True = codes "true"
keyword_text keyword.False = codes "false"

-- the first of some keywords that has this text
abbrev pub keyword_spelled : List Keyword → List ℕ → Option Keyword
keyword_spelled [] text = None
keyword_spelled (k ∷ ks) text = if bytes_eq text (keyword_text k) then Some k else keyword_spelled ks text

abbrev pub keywords : List Keyword
keywords = keyword.Chip ∷ keyword.In ∷ keyword.Out ∷ keyword.Parts ∷ keyword.Builtin ∷ keyword.Clocked ∷ keyword.True ∷ keyword.False ∷ []

-- the keyword that is spelled so
abbrev pub keyword_of : List ℕ → Option Keyword
keyword_of text = keyword_spelled keywords text

-- { } ( ) [ ] , ; : =
abbrev pub is_sign : ℕ → Bool
is_sign b = b == 123 || b == 125 || b == 40 || b == 41 || b == 91 || b == 93 || b == 44 || b == 59 || b == 58 || b == 61

abbrev pub made_word : Kind → List ℕ → Place → Word
made_word kind text at = record { kind = kind; text = text; place = at }

-- a token of the n + 1 bytes at the front
abbrev pub token_of : Kind → ℕ → List ℕ → Piece Word
token_of = words.token_of made_word

-- decimal digits
abbrev pub number_piece : List ℕ → Piece Word
number_piece bs = token_of (kind.Number (capped_count (decimal 0 (digits bs)))) (length (digits bs) - 1) bs

abbrev pub kind_of : Option Keyword → Kind
kind_of None = kind.Name
kind_of (Some k) = kind.Keyword k

abbrev pub word_kind : List ℕ → Kind
word_kind text = kind_of (keyword_of text)

-- letters, digits and underscores, the first no digit
abbrev pub word_piece : List ℕ → Piece Word
word_piece = words.word_of made_word word_kind

abbrev pub symbol_piece : ℕ → List ℕ → Piece Word
symbol_piece b bs = token_of (kind.Symbol b) 0 bs

abbrev pub begins_dots : List ℕ → Bool
begins_dots bs = bytes_eq (take 2 bs) (codes "..")

-- two dots; one alone is no token
abbrev pub dots_piece : List ℕ → Piece Word
dots_piece bs = if begins_dots bs then token_of kind.Dots 1 bs else Wrong Grammar

-- what begins at a byte that is no blank and begins no comment
abbrev pub piece_at : Option ℕ → List ℕ → Piece Word
piece_at None bs = Passed 0
piece_at (Some b) bs =
    if is_letter b then word_piece bs
    else (if is_sign b then symbol_piece b bs
    else (if is_digit b then number_piece bs
    else dots_piece bs))

abbrev pub piece : List ℕ → Piece Word
piece bs = piece_at (first bs) bs

abbrev pub tokens_of : List ℕ → Result (List Word) Fault
tokens_of text = tokens_between_blanks piece text

-- the place where a text ends
abbrev pub finish : List ℕ → Place
finish text = walk start text

-- The tokens of an assembly text: signs, of which `<<` and `>>` are not the book's, decimal numbers, symbols and line ends, with blanks, tabs and
-- comments between them. (The book, chapter 6.)
use Rattle.std.specs.Prelude.{ℕ, suc, ◌-◌, Bool, true, false, List, [], Option, Some, None, Result, ◌==◌, ◌||◌, if◌then◌else◌, codes, length, take, nat_lt, min}
use Rattle.std.specs.Char.{is_ascii_alphabetic}
use Rattle.std.specs.Str.{bytes_eq}
use Rattle.scan_text.specs.declared.Place.{Place}
use Rattle.scan_text.specs.Text.{start, walk, first, front, is_digit, digits, decimal, capped_count}
use Rattle.grammar.specs.declared.Fault.{Fault}
use Rattle.grammar.specs.declared.Fault.TheVariants.{Range}
use Rattle.grammar.specs.Cutting.{Piece, Passed, Token, Wrong, cut_text}
use Rattle.grammar.specs.Lines.{comment_piece, line_end_piece}
use Rattle.grammar.specs.Lines as lines
use Rattle.hack_asm.specs.declared.token.Kind.{Kind}
use Rattle.hack_asm.specs.declared.token.Kind.TheVariants.{Sign, Number, Symbol, LineEnd}
use Rattle.hack_asm.specs.declared.token.Role.{Role}
use Rattle.hack_asm.specs.declared.token.Token as declared
use Rattle.hack_asm.specs.Roles.{role_of}

-- a token without where its text lies in memory
pub record Word : Type 0 where
  pub kind : Kind
  pub role : Role
  pub text : List ℕ
  pub place : Place

abbrev pub view : declared.Token → Word
view t = record { kind = t.kind; role = t.role; text = t.text.now; place = t.place }

-- a letter, or one of `_ . $ :`
abbrev pub is_letter : ℕ → Bool
is_letter b = is_ascii_alphabetic b || b == 95 || b == 46 || b == 36 || b == 58

abbrev pub is_symbol_byte : ℕ → Bool
is_symbol_byte b = is_letter b || is_digit b

-- one of `@ ( ) = ; + - ! & |`
abbrev pub is_sign : ℕ → Bool
is_sign b = b == 64 || b == 40 || b == 41 || b == 61 || b == 59 || b == 43 || b == 45 || b == 33 || b == 38 || b == 124

-- `<<` and `>>` are one token each; a `<` or `>` alone begins none
abbrev pub begins_left_shift : List ℕ → Bool
begins_left_shift bs = bytes_eq (take 2 bs) (codes "<<")

abbrev pub begins_right_shift : List ℕ → Bool
begins_right_shift bs = bytes_eq (take 2 bs) (codes ">>")

-- a token of a kind and these bytes
abbrev pub made_word : Kind → List ℕ → Place → Word
made_word kind text at = record { kind = kind; role = role_of text; text = text; place = at }

-- a token of the n + 1 bytes at the front
abbrev pub word_of : Kind → ℕ → List ℕ → Piece Word
word_of kind n bs = Token (made_word kind (take (suc n) bs)) n

-- decimal digits, a number of at most 32,767
abbrev pub number_piece : List ℕ → Piece Word
number_piece bs =
    let n = capped_count (decimal 0 (digits bs)) in
    if nat_lt 32767 n then Wrong (λ at. Range at (min n 1000000000)) else word_of (Number n) (length (digits bs) - 1) bs

abbrev pub symbol_piece : List ℕ → Piece Word
symbol_piece bs = word_of Symbol (length (front is_symbol_byte bs) - 1) bs

-- the line end at a place
abbrev pub line_end_token : Place → Word
line_end_token = made_word LineEnd []

-- a shift, or else a line end
abbrev pub shift_piece : List ℕ → Piece Word
shift_piece bs =
    if begins_left_shift bs then word_of (Sign 60) 1 bs
    else (if begins_right_shift bs then word_of (Sign 62) 1 bs
    else line_end_piece line_end_token bs)

-- what begins at the first byte
abbrev pub piece_at : Option ℕ → List ℕ → Piece Word
piece_at None bs = Passed 0
piece_at (Some b) bs =
    if b == 32 || b == 9 then Passed 0
    else (if is_digit b then number_piece bs
    else (if is_letter b then symbol_piece bs
    else (if is_sign b then word_of (Sign b) 0 bs
    else (if b == 47 then comment_piece bs
    else shift_piece bs))))

abbrev pub piece : List ℕ → Piece Word
piece bs = piece_at (first bs) bs

abbrev pub ends_line : Kind → Bool
ends_line LineEnd = true
ends_line _ = false

abbrev pub ends : Word → Bool
ends t = ends_line t.kind

-- the end of the text ends its last line too
abbrev pub close : Option Word → Place → List Word
close = lines.close line_end_token ends

-- the tokens of a text of at most 1,048,576 bytes
abbrev pub tokens_of : List ℕ → Result (List Word) Fault
tokens_of = cut_text piece close

-- the place where a text ends
abbrev pub finish : List ℕ → Place
finish text = walk start text

-- The tokens of a VM text: words, decimal numbers and line ends, with blanks, tabs and comments between them. (The book, chapters 7
-- and 8.)
use Rattle.std.specs.Prelude.{ℕ, ◌-◌, Bool, true, false, List, [], Option, Some, None, Result, ◌==◌, ◌||◌, if◌then◌else◌, length, take, nat_lt, min, codes}
use Rattle.std.specs.Char.{is_ascii_alphabetic}
use Rattle.std.specs.Str.{bytes_eq}
use Rattle.scan_text.specs.declared.Place.{Place}
use Rattle.scan_text.specs.Text.{start, walk, first, front, is_digit, digits, decimal, capped_count}
use Rattle.grammar.specs.declared.Fault.{Fault}
use Rattle.grammar.specs.declared.Fault.TheVariants.{Range}
use Rattle.grammar.specs.Cutting.{Piece, Passed, Token, Wrong, cut_text}
use Rattle.grammar.specs.Lines.{comment_piece, line_end_piece}
use Rattle.grammar.specs.Lines as lines
use Rattle.vm_parser.specs.declared.token.Kind.{Kind}
use Rattle.vm_parser.specs.declared.token.Kind.TheVariants as kind
use Rattle.vm_parser.specs.declared.token.Role.{Role}
use Rattle.vm_parser.specs.declared.token.Role.TheVariants as role
use Rattle.vm_parser.specs.declared.token.Token as declared
use Rattle.vm_parser.specs.Roles.{role_of}

-- a token without where its text lies in memory
pub record Word : Type 0 where
  pub kind : Kind
  pub role : Role
  pub text : List ℕ
  pub place : Place

abbrev pub view : declared.Token → Word
view t = record { kind = t.kind; role = t.role; text = t.text.now; place = t.place }

-- the bytes of names: letters, digits, `_`, `.`, `$` and `:`; a digit begins no name
abbrev pub begins_name : ℕ → Bool
begins_name b = is_ascii_alphabetic b || b == 95 || b == 46 || b == 36 || b == 58

abbrev pub is_name_byte : ℕ → Bool
is_name_byte b = begins_name b || is_digit b

abbrev pub begins_if_goto : List ℕ → Bool
begins_if_goto bs = bytes_eq (take 7 bs) (codes "if-goto")

-- a token that is no word
abbrev pub made_word : Kind → Place → Word
made_word k at = record { kind = k; role = role.Plain; text = []; place = at }

-- decimal digits, a number of at most 32,767
abbrev pub number_piece : List ℕ → Piece Word
number_piece bs =
    let n = capped_count (decimal 0 (digits bs)) in
    if nat_lt 32767 n then Wrong (λ at. Range at (min n 1000000000)) else Token (made_word (kind.Number n)) (length (digits bs) - 1)

-- a run of the bytes of names
abbrev pub named_word : List ℕ → Place → Word
named_word text at = record { kind = kind.Name; role = role_of text; text = text; place = at }

abbrev pub name_piece : List ℕ → Piece Word
name_piece bs = Token (named_word (front is_name_byte bs)) (length (front is_name_byte bs) - 1)

abbrev pub if_goto_piece : Piece Word
if_goto_piece = Token (λ at. record { kind = kind.IfGoto; role = role.IfGoto; text = codes "if-goto"; place = at }) 6

-- the longest word at the front: `if-goto` is longer than the name `if`
abbrev pub word_piece : List ℕ → Piece Word
word_piece bs = if begins_if_goto bs then if_goto_piece else name_piece bs

-- the line end at a place
abbrev pub line_end_token : Place → Word
line_end_token = made_word kind.LineEnd

-- what begins at the first byte: blanks and tabs are passed over
abbrev pub piece_at : Option ℕ → List ℕ → Piece Word
piece_at None bs = Passed 0
piece_at (Some b) bs =
    if b == 32 || b == 9 then Passed 0
    else (if is_digit b then number_piece bs
    else (if begins_name b then word_piece bs
    else (if b == 47 then comment_piece bs
    else line_end_piece line_end_token bs)))

abbrev pub piece : List ℕ → Piece Word
piece bs = piece_at (first bs) bs

abbrev pub ends_line : Kind → Bool
ends_line kind.LineEnd = true
ends_line _ = false

abbrev pub ends : Word → Bool
ends t = ends_line t.kind

-- the end of the text ends its last line too
abbrev pub close : Option Word → Place → List Word
close = lines.close line_end_token ends

-- the tokens of a text of at most 1,048,576 bytes
abbrev pub tokens_of : List ℕ → Result (List Word) Fault
tokens_of = cut_text piece close

-- the place where a text ends
abbrev pub finish : List ℕ → Place
finish text = walk start text

-- The tokens of a key script: decimal numbers and line ends, with blanks and tabs between them.
use Rattle.std.specs.Prelude.{ℕ, ◌-◌, Bool, true, false, List, Option, Some, None, Result, ◌==◌, ◌||◌, if◌then◌else◌, length}
use Rattle.scan_text.specs.declared.Place.{Place}
use Rattle.scan_text.specs.Text.{start, walk, first, is_digit, digits, decimal, capped_count}
use Rattle.grammar.specs.declared.Fault.{Fault}
use Rattle.grammar.specs.Cutting.{Piece, Passed, Token, cut_text}
use Rattle.grammar.specs.Lines.{line_end_piece}
use Rattle.grammar.specs.Lines as lines
use Rattle.grammar.specs.declared.lines.Placed.{Placed}
use Rattle.grammar.specs.Placed.{token_at}
use Rattle.key_script.specs.declared.token.Kind.{Kind}
use Rattle.key_script.specs.declared.token.Kind.TheVariants.{Number, LineEnd}

-- a token is a kind and a place
abbrev pub Word : Type 0
Word = Placed Kind

-- decimal digits
abbrev pub number_piece : List ℕ → Piece Word
number_piece bs = Token (token_at (Number (capped_count (decimal 0 (digits bs))))) (length (digits bs) - 1)

-- the line end at a place
abbrev pub line_end_token : Place → Word
line_end_token = token_at LineEnd

-- what begins at the first byte: blanks and tabs are passed over
abbrev pub piece_at : Option ℕ → List ℕ → Piece Word
piece_at None bs = Passed 0
piece_at (Some b) bs = if b == 32 || b == 9 then Passed 0 else (if is_digit b then number_piece bs else line_end_piece line_end_token bs)

abbrev pub piece : List ℕ → Piece Word
piece bs = piece_at (first bs) bs

abbrev pub is_number : Kind → Bool
is_number (Number n) = true
is_number LineEnd = false

abbrev pub is_line_end : Kind → Bool
is_line_end (Number n) = false
is_line_end LineEnd = true

abbrev pub ends_line : Word → Bool
ends_line t = is_line_end t.kind

-- the end of the text ends its last line too
abbrev pub close : Option Word → Place → List Word
close = lines.close line_end_token ends_line

-- the tokens of a text of at most 1,048,576 bytes
abbrev pub tokens_of : List ℕ → Result (List Word) Fault
tokens_of = cut_text piece close

-- the place where a text ends
abbrev pub finish : List ℕ → Place
finish text = walk start text

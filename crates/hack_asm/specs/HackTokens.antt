-- The tokens of a `.hack` text: the single digits 0 and 1, and line ends.
use Rattle.std.specs.Prelude.{ℕ, Bool, true, false, List, Option, Some, None, Result, ◌==◌, if◌then◌else◌}
use Rattle.scan_text.specs.declared.Place.{Place}
use Rattle.scan_text.specs.Text.{start, walk, first}
use Rattle.grammar.specs.declared.Fault.{Fault}
use Rattle.grammar.specs.Cutting.{Piece, Passed, Token, cut_text}
use Rattle.grammar.specs.Lines.{line_end_piece}
use Rattle.grammar.specs.Lines as lines
use Rattle.grammar.specs.declared.lines.Placed.{Placed}
use Rattle.grammar.specs.Placed.{token_at}
use Rattle.hack_asm.specs.declared.hack_tokens.Kind.{Kind}
use Rattle.hack_asm.specs.declared.hack_tokens.Kind.TheVariants.{Digit, LineEnd}

-- a token is a kind and a place
abbrev pub Word : Type 0
Word = Placed Kind

-- the line end at a place
abbrev pub line_end_token : Place → Word
line_end_token = token_at LineEnd

-- what begins at the first byte: each digit is a token of its own, and there are no blanks
abbrev pub piece_at : Option ℕ → List ℕ → Piece Word
piece_at None bs = Passed 0
piece_at (Some b) bs =
    if b == 48 then Token (token_at (Digit false)) 0
    else (if b == 49 then Token (token_at (Digit true)) 0
    else line_end_piece line_end_token bs)

abbrev pub piece : List ℕ → Piece Word
piece bs = piece_at (first bs) bs

abbrev pub is_digit : Kind → Bool
is_digit (Digit b) = true
is_digit LineEnd = false

abbrev pub is_line_end : Kind → Bool
is_line_end (Digit b) = false
is_line_end LineEnd = true

abbrev pub ends_line : Word → Bool
ends_line t = is_line_end t.kind

-- the end of the text ends its last line too
abbrev pub close : Option Word → Place → List Word
close = lines.close line_end_token ends_line

-- the tokens of a text of at most 1,048,576 bytes
abbrev pub tokens_of : List ℕ → Result (List Word) Fault
tokens_of = cut_text piece close

-- the place where a text ends
abbrev pub finish : List ℕ → Place
finish text = walk start text

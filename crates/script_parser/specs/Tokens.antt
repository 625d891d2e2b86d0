-- The tokens of a test script (book, appendix 3): texts in double quotes, signs and words. Blanks (space, tab, line feed, return) and
-- comments are passed over.
use Rattle.std.specs.Prelude.{ℕ, suc, ◌+◌, Bool, true, false, List, [], ◌∷◌, Option, Some, None, Result, ◌==◌, ◌||◌, ◌&&◌, if◌then◌else◌, length, take, drop, codes}
use Rattle.std.specs.Str.{bytes_eq}
use Rattle.scan_text.specs.declared.Place.{Place}
use Rattle.scan_text.specs.Text.{start, walk, first, front, rest_behind}
use Rattle.scan_text.specs.Blanks.{starts, is_blank}
use Rattle.grammar.specs.declared.Fault.{Fault}
use Rattle.grammar.specs.declared.Fault.TheVariants.{Grammar}
use Rattle.grammar.specs.Cutting.{Piece, Passed, Token, Wrong, tokens_between_blanks}
use Rattle.script_parser.specs.declared.token.Role.{Role}
use Rattle.script_parser.specs.declared.token.Role.TheVariants as role
use Rattle.script_parser.specs.declared.token.Kind.{Kind}
use Rattle.script_parser.specs.declared.token.Kind.TheVariants as kind
use Rattle.script_parser.specs.declared.token.Token as declared

-- a token without where its text lies in memory
pub record Word : Type 0 where
  pub kind : Kind
  pub text : List ℕ
  pub place : Place

abbrev pub view : declared.Token → Word
view t = record { kind = t.kind; text = t.text.now; place = t.place }

-- what the first of some words says that has this text
abbrev pub role_spelled : List (List ℕ × Role) → List ℕ → Role
role_spelled [] text = role.Plain
role_spelled (w ∷ ws) text = if bytes_eq text w.0 then w.1 else role_spelled ws text

-- the words that begin commands
abbrev pub roles : List (List ℕ × Role)
roles =
    (codes "eval", role.Eval) ∷ (codes "tick", role.Tick) ∷ (codes "tock", role.Tock)
    ∷ (codes "ticktock", role.TickTock) ∷ (codes "output", role.Output) ∷ (codes "load", role.Load)
    ∷ (codes "output-file", role.OutputFile) ∷ (codes "compare-to", role.CompareTo) ∷ (codes "output-list", role.OutputList)
    ∷ (codes "set", role.Set) ∷ (codes "echo", role.Echo) ∷ (codes "ROM32K", role.Rom) ∷ (codes "repeat", role.Repeat) ∷ []

-- what a word is at the begin of a command
abbrev pub role_of : List ℕ → Role
role_of text = role_spelled roles text

-- , ; ! { }
abbrev pub is_sign : ℕ → Bool
is_sign b = b == 44 || b == 59 || b == 33 || b == 123 || b == 125

-- a byte that may stand in a text: no quote, line feed or return
abbrev pub is_text_byte : ℕ → Bool
is_text_byte b = if b == 34 || b == 10 || b == 13 then false else true

-- a word ends at a blank, a sign or a quote, and where a comment begins
abbrev pub begins_comment : ℕ → List ℕ → Bool
begins_comment b bs = b == 47 && (starts 47 bs || starts 42 bs)

abbrev pub ends_word : ℕ → List ℕ → Bool
ends_word b bs = is_blank b || is_sign b || b == 34 || begins_comment b bs

-- the bytes of a word that has begun
abbrev pub word_front : List ℕ → List ℕ
word_front [] = []
word_front (b ∷ bs) = if ends_word b bs then [] else b ∷ word_front bs

-- a token of the n + 1 bytes at the front
abbrev pub token_of : Kind → ℕ → List ℕ → Piece Word
token_of kind n bs = Token (λ at. record { kind = kind; text = take (suc n) bs; place = at }) n

abbrev pub sign_piece : ℕ → List ℕ → Piece Word
sign_piece b bs = token_of (kind.Sign b) 0 bs

-- one byte, and the others up to where the word ends
abbrev pub word_piece : List ℕ → Piece Word
word_piece bs =
    let n = length (word_front (drop 1 bs)) in
    token_of (kind.Word (role_of (take (suc n) bs))) n bs

-- a text in double quotes, which is closed on its line
abbrev pub text_piece : List ℕ → Piece Word
text_piece bs =
    let text = front is_text_byte (drop 1 bs) in
    if starts 34 (rest_behind is_text_byte (drop 1 bs)) then Token (λ at. record { kind = kind.Text; text = text; place = at }) (length text + 1) else Wrong Grammar

-- what begins at a byte that is no blank and begins no comment
abbrev pub piece_at : Option ℕ → List ℕ → Piece Word
piece_at None bs = Passed 0
piece_at (Some b) bs = if b == 34 then text_piece bs else (if is_sign b then sign_piece b bs else word_piece bs)

abbrev pub piece : List ℕ → Piece Word
piece bs = piece_at (first bs) bs

abbrev pub tokens_of : List ℕ → Result (List Word) Fault
tokens_of text = tokens_between_blanks piece text

-- the place where a text ends
abbrev pub finish : List ℕ → Place
finish text = walk start text

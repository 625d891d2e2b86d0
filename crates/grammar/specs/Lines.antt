-- The tokens of a language that is read by lines: line ends are tokens too, and the end of the text ends its last line.
use Rattle.std.specs.Prelude.{ℕ, ◌-◌, Bool, true, false, List, [], ◌∷◌, Option, Some, None, if◌then◌else◌, length, drop, nat_lt}
use Rattle.scan_text.specs.declared.Place.{Place}
use Rattle.scan_text.specs.Blanks.{starts, line, line_end}
use Rattle.grammar.specs.declared.Fault.TheVariants.{Grammar}
use Rattle.grammar.specs.Cutting.{Piece, Passed, Token, Wrong}

-- two slashes and the rest of the line; a slash alone is no token
abbrev pub comment_piece : {T : Type 0} → List ℕ → Piece T
comment_piece bs = if starts 47 (drop 1 bs) then Passed (length (line bs) - 1) else Wrong Grammar

-- A line feed, or a return and a line feed, which are one line end. A return alone is no token. ended is the token of a line end.
abbrev pub line_end_piece : {T : Type 0} → (Place → T) → List ℕ → Piece T
line_end_piece ended bs = if nat_lt 0 (line_end bs) then Token ended (line_end bs - 1) else Wrong Grammar

-- the last line has begun and has no line end; ends says which tokens are line ends
abbrev pub is_open : {T : Type 0} → (T → Bool) → Option T → Bool
is_open ends None = false
is_open ends (Some t) = if ends t then false else true

-- the end of the text ends its last line too
abbrev pub close : {T : Type 0} → (Place → T) → (T → Bool) → Option T → Place → List T
close ended ends last at = if is_open ends last then ended at ∷ [] else []

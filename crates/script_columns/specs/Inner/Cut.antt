-- The first line of a text, by its length and by where the next one begins.
use Rattle.std.specs.Prelude.{ℕ, suc, Bool, if◌then◌else◌, nat_eq, ◌&&◌, ◌||◌, List, [], ◌∷◌}
use Rattle.script_columns.specs.Comparison.{front}

-- a character ends its line: a line feed, or a return before one
abbrev pub ends_line : ℕ → List ℕ → Bool
ends_line c rest = nat_eq c 10 || (nat_eq c 13 && nat_eq (front rest) 10)

-- how many characters the first line has
abbrev pub line_length : List ℕ → ℕ
line_length [] = 0
line_length (c ∷ rest) = if ends_line c rest then 0 else suc (line_length rest)

-- how many characters stand before the second line
abbrev pub past_first : List ℕ → ℕ
past_first [] = 0
past_first (c ∷ rest) = if nat_eq c 10 then 1 else suc (past_first rest)

-- The key that is held at each moment.
use Rattle.std.specs.Prelude.{ℕ, ◌+◌, Bool, true, List, [], ◌∷◌, Option, Some, None, nat_le, ◌&&◌, filter}
use Rattle.grammar.specs.Cutting.{last_of}
use Rattle.key_script.specs.declared.lines.Line.{Line}

abbrev pub code_of : Option Line → ℕ
code_of None = 0
code_of (Some l) = l.code

-- the lines whose moment has come
abbrev pub has_come : ℕ → Line → Bool
has_come c l = nat_le l.moment c

-- the code of the last line whose moment is at most c, else 0
abbrev pub code_at : List Line → ℕ → ℕ
code_at ls c = code_of (last_of (filter (has_come c) ls))

-- each moment is above the one before, and the first is at least this
abbrev pub are_rising : ℕ → List Line → Bool
are_rising least [] = true
are_rising least (l ∷ ls) = nat_le least l.moment && are_rising (l.moment + 1) ls

-- The exit status that the lines of a paragraph tell by its word.
use Rattle.std.specs.Prelude.{ℕ, List, [], ◌∷◌, Option, position, filter_map, get_or, codes}
use Rattle.std.specs.Str.{bytes_eq}

-- the word for each exit status, from 0 on
abbrev pub words : List (List ℕ)
words =
    codes "done" ∷ codes "refused" ∷ codes "usage" ∷ codes "read fault" ∷ codes "write fault" ∷ codes "no memory" ∷ codes "differs"
    ∷ []

-- the status whose word a line is
abbrev pub status_by : List ℕ → Option ℕ
status_by line = position (bytes_eq line) words

-- the statuses that lines tell, in their order
abbrev pub told : List (List ℕ) → List ℕ
told lines = filter_map status_by lines

-- the first of them, or that of a line that is done where they tell none
abbrev pub status_of : List (List ℕ) → ℕ
status_of lines = get_or (told lines) 0 0

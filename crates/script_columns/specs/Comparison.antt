-- The lines of a compare file, and how a line that is put agrees with one (book, appendix 3).
use Rattle.std.specs.Prelude.{ℕ, Bool, true, false, if◌then◌else◌, nat_eq, ◌&&◌, ◌||◌, List, [], ◌∷◌}

-- the first character, and 0 of an empty text
abbrev pub front : List ℕ → ℕ
front [] = 0
front (c ∷ rest) = c

-- a character before the first line
abbrev pub with_front : ℕ → List (List ℕ) → List (List ℕ)
with_front c [] = (c ∷ []) ∷ []
with_front c (line ∷ lines) = (c ∷ line) ∷ lines

-- The lines of a text: a line feed ends a line, a return before a line feed is skipped, and a last line without a line feed counts.
abbrev pub lines_of : List ℕ → List (List ℕ)
lines_of [] = []
lines_of (c ∷ rest) = if nat_eq c 10 then [] ∷ lines_of rest else if nat_eq c 13 && nat_eq (front rest) 10 then lines_of rest else with_front c (lines_of rest)

-- a character of a compare file stands for one that is put: a star for any
abbrev pub stands_for : ℕ → ℕ → Bool
stands_for compared put = nat_eq compared 42 || nat_eq compared put

-- A line agrees with a line of a compare file: it is as long, and has its characters but where that has a star.
abbrev pub agrees : List ℕ → List ℕ → Bool
agrees [] [] = true
agrees [] (c ∷ line) = false
agrees (s ∷ compared) [] = false
agrees (s ∷ compared) (c ∷ line) = stands_for s c && agrees compared line

-- it agrees with the first of these lines, where there is one
abbrev pub agrees_first : List (List ℕ) → List ℕ → Bool
agrees_first [] line = false
agrees_first (compared ∷ lines) line = agrees compared line

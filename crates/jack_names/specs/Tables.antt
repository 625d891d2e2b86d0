-- Names among names (the symbol tables of the book's chapter 11).
use Rattle.std.specs.Prelude.{ℕ, Bool, true, false, List, [], ◌∷◌, if◌then◌else◌}
use Rattle.std.specs.Str.{bytes_eq}

-- one of these names is spelled so
abbrev pub is_among : List ℕ → List (List ℕ) → Bool
is_among x [] = false
is_among x (y ∷ ys) = if bytes_eq x y then true else is_among x ys

-- Tables of names: what a name stands for is what was entered first for it. (The symbol tables of the book's chapters 6 and 11.)
use Rattle.std.specs.Prelude.{ℕ, List, [], ◌∷◌, Option, Some, None, if◌then◌else◌, is_some, map, ◌++◌}
use Rattle.std.specs.Str.{bytes_eq}

-- what was entered first for a name
abbrev pub find_value : {V : Type 0} → List ℕ → List (List ℕ × V) → Option V
find_value x [] = None
find_value x (e ∷ es) = if bytes_eq x e.0 then Some e.1 else find_value x es

-- the first of two choices that is there
abbrev pub first_of : {A : Type 0} → Option A → Option A → Option A
first_of None other = other
first_of (Some a) other = Some a

-- the names that are entered
abbrev pub names_in : {V : Type 0} → List (List ℕ × V) → List (List ℕ)
names_in es = map (λ e. e.0) es

-- the entries with one more, unless its name is there
abbrev pub with_new : {V : Type 0} → List (List ℕ × V) → List ℕ → V → List (List ℕ × V)
with_new es x v = if is_some (find_value x es) then es else es ++ (x, v) ∷ []

-- A stack in the code: its last element is on top.
use Rattle.std.specs.Prelude.{List, [], ◌∷◌, ◌++◌}

-- these from the bottom on, the first of which is on top
abbrev pub from_bottom : {A : Type 0} → List A → List A
from_bottom [] = []
from_bottom (x ∷ xs) = from_bottom xs ++ x ∷ []

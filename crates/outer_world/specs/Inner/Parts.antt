-- The two parts in which the line of a fault is put.
use Rattle.std.specs.Prelude.{◌++◌, ◌∷◌, ℕ, List, [], decimal}
use Rattle.outer_world.specs.Refusals.{Message}
use Rattle.outer_world.specs.Texts.{fault_text}

-- the line up to its word, and what follows it
abbrev pub front_of : List ℕ → Message → List ℕ
front_of path m = path ++ 58 ∷ (decimal m.line ++ 58 ∷ (decimal m.column ++ 58 ∷ 32 ∷ m.word))

abbrev pub rest_of : List ℕ → List ℕ
rest_of detail = fault_text [] detail ++ 10 ∷ []

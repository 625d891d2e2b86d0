-- How many statements there are, nested ones included.
use Rattle.std.specs.Prelude.{ℕ, ◌+◌, List, [], ◌∷◌, Option, Some, None, Vec}
use Rattle.std.specs.Global.{Global}
use Rattle.jack_tree.specs.declared.tree.Statement as statements

abbrev mutual
  pub size : statements.Statement → ℕ
  size (statements.Let at x i e) = 1
  size (statements.If' at e n a b) = 1 + row_size a + other_size b
  size (statements.While' at e n a) = 1 + row_size a
  size (statements.Do at c) = 1
  size (statements.Return at v) = 1

  -- statements that stand in a statement
  pub row_size : {n : _} → statements.Row_of-Statement n → ℕ
  row_size statements.end_of-Statement = 0
  row_size (statements.more_of-Statement s ss) = size s + row_size ss

  pub other_size : statements.Held-Statement-If-3 → ℕ
  other_size statements.None' = 0
  other_size (statements.Some' n a) = row_size a

-- statements in order
abbrev pub sizes : List statements.Statement → ℕ
sizes [] = 0
sizes (s ∷ ss) = size s + sizes ss

abbrev pub else_size : Option (Vec statements.Statement Global) → ℕ
else_size None = 0
else_size (Some v) = sizes v.items

-- A tree keeps no more words than there are tokens, and a class has no more subroutines and statements than its tree keeps words.
use Rattle.std.proofs.Common.{ℕ, ◌+◌, ◌*◌, ◌≤◌, List, [], ◌∷◌, length, arith}
use Rattle.grammar.specs.Rules.{Rule, Tree, Skip, Node, Leaf, Pair, Left, Right, Absent, Present, NoMore, More, tree_of_list, Rules, Reads, marked, worded, at_end, both, left, right, passed, taken, ended, again, named, inside}
use Rattle.jack_tree.specs.declared.tree.Statement as statements
use Rattle.jack_tree.specs.declared.tree.Subroutine.{Subroutine}
use Rattle.jack_parser.specs.StatementTrees.{any_tree, row_tree, other_tree, statements_tree}
use Rattle.jack_parser.specs.ClassTrees.{subroutine_tree}
use Rattle.jack_names.specs.Sizes.{size, row_size, other_size, sizes}

-- how many words of the text a tree keeps
abbrev pub weight : {V : Type 0} → Tree V → ℕ
weight Skip = 0
weight (Node x) = weight x
weight (Leaf v) = 1
weight (Pair x y) = weight x + weight y
weight (Left x) = weight x
weight (Right x) = weight x
weight Absent = 0
weight (Present x) = weight x
weight NoMore = 0
weight (More x y) = weight x + weight y

module _ (T S N V : Type 0) (g : Rules T S N V) where
  pub weighs : {s s' : S} {r : Rule T S N V} {ts us : List T} {x : Tree V} → Reads T S N V g s r ts x s' us → weight x + length us ≤ length ts
  weighs (marked e) = omega arith
  weighs (worded e c) = omega arith
  weighs at_end = omega arith
  weighs (both p q) = omega (arith, weighs p, weighs q)
  weighs (left e p) = weighs p
  weighs (right e f p) = weighs p
  weighs (passed e) = omega arith
  weighs (taken e p) = weighs p
  weighs (ended e) = omega arith
  weighs (again e p q) = omega (arith, weighs p, weighs q)
  weighs (named p) = weighs p
  weighs (inside e c p) = weighs p

-- each statement begins with a word that its tree keeps
mutual
  size_within : (s : statements.Statement) → size s ≤ weight (any_tree s)
  size_within (statements.Let at x i e) = omega arith
  size_within (statements.If' at e n a b) = omega (arith, row_within a, other_within b)
  size_within (statements.While' at e n a) = omega (arith, row_within a)
  size_within (statements.Do at c) = omega arith
  size_within (statements.Return at v) = omega arith

  row_within : {n : _} (ss : statements.Row_of-Statement n) → row_size ss ≤ weight (row_tree ss)
  row_within statements.end_of-Statement = omega arith
  row_within (statements.more_of-Statement s ss) = omega (arith, size_within s, row_within ss)

  other_within : (b : statements.Held-Statement-If-3) → other_size b ≤ weight (other_tree b)
  other_within statements.None' = omega arith
  other_within (statements.Some' n a) = omega (arith, row_within a)

pub sizes_within : (ss : List statements.Statement) → sizes ss ≤ weight (statements_tree ss)
sizes_within [] = omega arith
sizes_within (s ∷ ss) = omega (arith, size_within s, sizes_within ss)

-- each subroutine begins with a word that its tree keeps
pub subroutines_within : (ss : List Subroutine) → length ss ≤ weight (tree_of_list subroutine_tree ss NoMore)
subroutines_within [] = omega arith
subroutines_within (s ∷ ss) = omega (arith, subroutines_within ss)

-- it begins with three such words: its form, its result and its name
pub thrice_within : (ss : List Subroutine) → 3 * length ss ≤ weight (tree_of_list subroutine_tree ss NoMore)
thrice_within [] = omega arith
thrice_within (s ∷ ss) = omega (arith, thrice_within ss)

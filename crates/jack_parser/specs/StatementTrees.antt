-- The trees of statements as trees of the grammar.
use Rattle.std.specs.Prelude.{List, [], Option, Some, None, Vec, Box}
use Rattle.std.specs.Global.{Global}
use Rattle.scan_text.specs.declared.Place.{Place}
use Rattle.grammar.specs.Rules.{Tree, Leaf, Node, Pair, Skip, Left, Right, Absent, Present, NoMore, More, tree_of_list}
use Rattle.jack_tree.specs.declared.token.Keyword.{Keyword}
use Rattle.jack_tree.specs.declared.token.Keyword.TheVariants as keyword
use Rattle.jack_tree.specs.declared.token.Kind.TheVariants as kind
use Rattle.jack_tree.specs.declared.tree.Expression.{Expression}
use Rattle.jack_tree.specs.declared.tree.Statement as statements
use Rattle.jack_parser.specs.Grammar.{Said, Placed}
use Rattle.jack_parser.specs.Trees.{name_leaf, exp_tree, group_tree, call_said, invoked_tree}

abbrev pub key_leaf : Keyword → Place → Tree Said
key_leaf k at = Leaf (Placed (kind.Keyword k) [] at)

-- ['[' exp ']']
abbrev pub index_tree : Option (Box Expression Global) → Tree Said
index_tree None = Absent
index_tree (Some e) = Present (group_tree e.value)

-- [exp]
abbrev pub value_tree : Option Expression → Tree Said
value_tree None = Absent
value_tree (Some e) = Present (exp_tree e)

-- what stands in braces
abbrev pub braces_tree : Tree Said → Tree Said
braces_tree t = Pair Skip (Pair t Skip)

abbrev mutual
  -- a statement, without the level that it is round its tokens
  pub any_tree : statements.Statement → Tree Said
  any_tree (statements.Let at n i e) = Left (Pair (key_leaf keyword.Let at) (Pair (name_leaf n) (Pair (index_tree i) (Pair Skip (Pair (exp_tree e) Skip)))))
  any_tree (statements.If' at e n body other) = Right (Left (Pair (key_leaf keyword.If at) (Pair (group_tree e) (Pair (braces_tree (row_tree body)) (other_tree other)))))
  any_tree (statements.While' at e n body) = Right (Right (Left (Pair (key_leaf keyword.While at) (Pair (group_tree e) (braces_tree (row_tree body))))))
  any_tree (statements.Do at c) = Right (Right (Right (Left (Pair (key_leaf keyword.Do at) (Pair (Leaf (call_said c)) (Pair (invoked_tree c) Skip))))))
  any_tree (statements.Return at v) = Right (Right (Right (Right (Pair (key_leaf keyword.Return at) (Pair (value_tree v) Skip)))))

  pub row_tree : {n : _} → statements.Row_of-Statement n → Tree Said
  row_tree statements.end_of-Statement = NoMore
  row_tree (statements.more_of-Statement s ss) = More (Node (Node (any_tree s))) (row_tree ss)

  pub other_tree : statements.Held-Statement-If-3 → Tree Said
  other_tree statements.None' = Absent
  other_tree (statements.Some' n body) = Present (Pair Skip (braces_tree (row_tree body)))

abbrev pub statement_tree : statements.Statement → Tree Said
statement_tree s = Node (Node (any_tree s))

abbrev pub statements_tree : List statements.Statement → Tree Said
statements_tree ss = tree_of_list statement_tree ss NoMore

abbrev pub block_tree : List statements.Statement → Tree Said
block_tree ss = braces_tree (statements_tree ss)

abbrev pub else_tree : Option (Vec statements.Statement Global) → Tree Said
else_tree None = Absent
else_tree (Some v) = Present (Pair Skip (block_tree v.items))

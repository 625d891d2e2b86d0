-- How many parts a tree has: a statement that is held by another has fewer.
use Rattle.std.proofs.Common.{◌≡◌, ℕ, zero, suc, ◌+◌, ◌<◌, List, [], ◌∷◌, Option, Some, length, get_or, ap, ◌∙◌, sym, subst, arith, Vec, Global}
use Rattle.scan_text.specs.declared.Place.{Place}
use Rattle.grammar.specs.Rules.{Tree, Skip, Node, Leaf, Pair, Left, Right, Absent, Present, NoMore, More, tree_of_list}
use Rattle.jack_tree.specs.declared.token.Keyword.TheVariants as keyword
use Rattle.jack_tree.specs.declared.tree.Expression.{Expression}
use Rattle.jack_tree.specs.declared.tree.Statement as statements
use Rattle.jack_parser.specs.Grammar.{Said}
use Rattle.jack_parser.specs.Trees.{group_tree}
use Rattle.jack_parser.specs.StatementTrees.{key_leaf, any_tree, statement_tree, statements_tree, block_tree, else_tree}
use Rattle.jack_parser.proofs.Blocks.{while_is, if_is}

abbrev pub parts : Tree Said → ℕ
parts Skip = 1
parts (Node x) = 1 + parts x
parts (Leaf v) = 1
parts (Pair x y) = 1 + parts x + parts y
parts (Left x) = 1 + parts x
parts (Right x) = 1 + parts x
parts Absent = 1
parts (Present x) = 1 + parts x
parts NoMore = 1
parts (More x y) = 1 + parts x + parts y

block_parts : (k e x o : Tree Said) → parts x < parts (Node (Node (Right (Left (Pair k (Pair e (Pair (Pair Skip (Pair x Skip)) o)))))))
block_parts k e x o = omega arith

other_parts : (k e y x : Tree Said) → parts x < parts (Node (Node (Right (Left (Pair k (Pair e (Pair y (Present (Pair Skip (Pair Skip (Pair x Skip)))))))))))
other_parts k e y x = omega arith

body_parts : (k e x : Tree Said) → parts x < parts (Node (Node (Right (Right (Left (Pair k (Pair e (Pair Skip (Pair x Skip)))))))))
body_parts k e x = omega arith

pub if_body : {x : statements.Statement} {at : Place} {e : Expression} (body : Vec statements.Statement Global) (other : Option (Vec statements.Statement Global)) → x ≡ statements.If at e body other → parts (statements_tree body.items) < parts (statement_tree x)
if_body {x} {at} {e} body other is =
    subst (λ (t : Tree Said). parts (statements_tree body.items) < parts (Node (Node t))) (sym (if_is at e body other) ∙ ap any_tree (sym is)) (block_parts (key_leaf keyword.If at) (group_tree e) (statements_tree body.items) (else_tree other))

pub if_other : {x : statements.Statement} {at : Place} {e : Expression} (body : Vec statements.Statement Global) (other : Vec statements.Statement Global) → x ≡ statements.If at e body (Some other) → parts (statements_tree other.items) < parts (statement_tree x)
if_other {x} {at} {e} body other is =
    subst (λ (t : Tree Said). parts (statements_tree other.items) < parts (Node (Node t))) (sym (if_is at e body (Some other)) ∙ ap any_tree (sym is)) (other_parts (key_leaf keyword.If at) (group_tree e) (block_tree body.items) (statements_tree other.items))

pub while_body : {x : statements.Statement} {at : Place} {e : Expression} (body : Vec statements.Statement Global) → x ≡ statements.While at e body → parts (statements_tree body.items) < parts (statement_tree x)
while_body {x} {at} {e} body is =
    subst (λ (t : Tree Said). parts (statements_tree body.items) < parts (Node (Node t))) (sym (while_is at e body) ∙ ap any_tree (sym is)) (body_parts (key_leaf keyword.While at) (group_tree e) (statements_tree body.items))

pub one_of : {X : Type 0} (tree : X → Tree Said) (xs : List X) (i : ℕ) (x : X) → i < length xs → x ≡ get_or xs i x → parts (tree x) < parts (tree_of_list tree xs NoMore)
one_of tree [] i x n is = absurd (omega arith)
one_of tree (y ∷ ys) zero x n is = let e : parts (tree x) ≡ parts (tree y) = ap (λ z. parts (tree z)) is in omega (arith, e)
one_of tree (y ∷ ys) (suc i) x n is = let h : parts (tree x) < parts (tree_of_list tree ys NoMore) = one_of tree ys i x (omega arith) is in omega (arith, h)

-- Statements as a list, and as the rows that a tree holds.
use Rattle.std.proofs.Common.{◌≡◌, Option, Some, None, refl, ap, ◌∙◌, Vec, Global}
use mathlib.Core.Former.{Count}
use Rattle.scan_text.specs.declared.Place.{Place}
use Rattle.grammar.specs.Rules.{Tree, Pair, Skip, Left, Right, Absent, Present, More}
use Rattle.jack_tree.specs.declared.token.Keyword.TheVariants as keyword
use Rattle.jack_tree.specs.declared.tree.Expression.{Expression}
use Rattle.jack_tree.specs.declared.tree.Statement as statements
use Rattle.jack_parser.specs.Grammar.{Said}
use Rattle.jack_parser.specs.Trees.{group_tree}
use Rattle.jack_parser.specs.StatementTrees.{key_leaf, any_tree, row_tree, braces_tree, statement_tree, statements_tree, block_tree, else_tree}

rows_are : (n : _) (row : statements.Row_of-Statement n) → row_tree row ≡ statements_tree (statements.items-the_row-Statement n row)
rows_are n statements.end_of-Statement = refl
rows_are n (statements.more_of-Statement s ss) = ap (More (statement_tree s)) (rows_are _ ss)

abbrev row_of : statements.Statement → (n : Count) × statements.Row_of-Statement n
row_of (statements.While' at e _ row) = (_, row)
row_of (statements.If' at e _ row other) = (_, row)
row_of _ = (_, statements.end_of-Statement)

abbrev held : statements.Held-Statement-If-3 → (n : Count) × statements.Row_of-Statement n
held statements.None' = (_, statements.end_of-Statement)
held (statements.Some' _ row) = (_, row)

abbrev other_of : statements.Statement → (n : Count) × statements.Row_of-Statement n
other_of (statements.If' at e _ row other) = held other
other_of _ = (_, statements.end_of-Statement)

pub while_is : (at : Place) (e : Expression) (body : Vec statements.Statement Global) → any_tree (statements.While at e body) ≡ Right (Right (Left (Pair (key_leaf keyword.While at) (Pair (group_tree e) (block_tree body.items)))))
while_is at e body =
    let row = row_of (statements.While at e body) in
    ap (λ (t : Tree Said). Right (Right (Left (Pair (key_leaf keyword.While at) (Pair (group_tree e) (braces_tree t)))))) (rows_are row.0 row.1 ∙ ap statements_tree (statements.items_hidden-the_row-Statement-0 body))

pub if_is : (at : Place) (e : Expression) (body : Vec statements.Statement Global) (other : Option (Vec statements.Statement Global)) → any_tree (statements.If at e body other) ≡ Right (Left (Pair (key_leaf keyword.If at) (Pair (group_tree e) (Pair (block_tree body.items) (else_tree other)))))
if_is at e body None =
    let row = row_of (statements.If at e body None) in
    ap (λ (t : Tree Said). Right (Left (Pair (key_leaf keyword.If at) (Pair (group_tree e) (Pair (braces_tree t) Absent))))) (rows_are row.0 row.1 ∙ ap statements_tree (statements.items_hidden-the_row-Statement-0 body))
if_is at e body (Some v) =
    let row = row_of (statements.If at e body (Some v)) in
    let other = other_of (statements.If at e body (Some v)) in
    let p = rows_are row.0 row.1 ∙ ap statements_tree (statements.items_hidden-the_row-Statement-0 body) in
    let q = rows_are other.0 other.1 ∙ ap statements_tree (statements.items_hidden-the_row-Statement-0 v) in
    λ i. Right (Left (Pair (key_leaf keyword.If at) (Pair (group_tree e) (Pair (braces_tree (p i)) (Present (Pair Skip (braces_tree (q i))))))))

-- Lists of trees: as they stand in a tree, and as they are made of sketches.
use Rattle.std.proofs.Common.{◌≡◌, List, [], ◌∷◌, Some, None, map, refl, ap, sym, ◌∙◌, Bor, Vec, Global}
use mathlib.Core.Former.{Count}
use Rattle.grammar.specs.Rules.{Pair, Skip, Node, Left, Right, Absent, Present, NoMore, More, tree_of_list}
use Rattle.scan_text.specs.Text.{nowhere}
use Rattle.jack_tree.specs.declared.token.Keyword.TheVariants as keyword
use Rattle.jack_tree.specs.declared.tree.Name.{Name}
use Rattle.jack_tree.specs.declared.tree.Parameter.{Parameter}
use Rattle.jack_tree.specs.declared.tree.Expression.{Expression}
use Rattle.jack_tree.specs.declared.tree.Statement as statements
use Rattle.jack_parser.specs.Trees.{name_leaf, exp_tree}
use Rattle.jack_parser.specs.StatementTrees.{statement_tree}
use Rattle.jack_parser.specs.ClassTrees.{next_name_tree, parameter_tree, next_parameter_tree, parameters_tree}
use Rattle.jack_parser.proofs.Blocks.{while_is, if_is}
use Rattle.jack_os.specs.declared.sketch.ExpressionSketch.{ExpressionSketch}
use Rattle.jack_os.specs.declared.sketch.StatementSketch as sketches
use Rattle.jack_os.specs.Inner.Made.{Jack, word_of, enclosed_term, row, more_of, parameters_of, if_then, if_else, while_loop}
use Rattle.jack_os.specs.Inner.Sketched.{expression, statement, all}

pub row_is : {X : Type 0} (tree : X → Jack) (xs : List X) → tree_of_list tree xs NoMore ≡ row (map tree xs)
row_is tree [] = refl
row_is tree (x ∷ xs) = ap (More (tree x)) (row_is tree xs)

pub names_are : (ns : List Name) → tree_of_list next_name_tree ns NoMore ≡ more_of (map name_leaf ns)
names_are [] = refl
names_are (n ∷ ns) = ap (More (next_name_tree n)) (names_are ns)

others_are : (ps : List Parameter) → tree_of_list next_parameter_tree ps NoMore ≡ more_of (map parameter_tree ps)
others_are [] = refl
others_are (p ∷ ps) = ap (More (next_parameter_tree p)) (others_are ps)

pub parameters_are : (ps : List Parameter) → parameters_tree ps ≡ parameters_of (map parameter_tree ps)
parameters_are [] = refl
parameters_are (p ∷ ps) = ap (λ (more : Jack). Present (Pair (parameter_tree p) more)) (others_are ps)

-- the statements of a sketch, as a list and as the row that it holds
all_are : (n : _) (row : sketches.Row_of-StatementSketch n) → all row ≡ map statement (sketches.items-the_row-StatementSketch n row)
all_are n sketches.end_of-StatementSketch = refl
all_are n (sketches.more_of-StatementSketch s ss) = ap (λ (ts : List Jack). statement s ∷ ts) (all_are _ ss)

abbrev row_of : sketches.StatementSketch → (n : Count) × sketches.Row_of-StatementSketch n
row_of (sketches.While' e _ _ body) = (_, body)
row_of (sketches.If' e _ _ body) = (_, body)
row_of (sketches.IfElse' e _ _ body _ _ other) = (_, body)
row_of _ = (_, sketches.end_of-StatementSketch)

abbrev other_of : sketches.StatementSketch → (n : Count) × sketches.Row_of-StatementSketch n
other_of (sketches.IfElse' e _ _ body _ _ other) = (_, other)
other_of _ = (_, sketches.end_of-StatementSketch)

while_sketch : (e : ExpressionSketch) (body : Bor (List sketches.StatementSketch)) → statement (sketches.While e body) ≡ while_loop (expression e) (map statement body.now)
while_sketch e body =
    let r = row_of (sketches.While e body) in
    ap (while_loop (expression e)) (all_are r.0 r.1 ∙ ap (map statement) (sketches.items_hidden-the_row-StatementSketch-0 body.now))

if_sketch : (e : ExpressionSketch) (body : Bor (List sketches.StatementSketch)) → statement (sketches.If e body) ≡ if_then (expression e) (map statement body.now)
if_sketch e body =
    let r = row_of (sketches.If e body) in
    ap (if_then (expression e)) (all_are r.0 r.1 ∙ ap (map statement) (sketches.items_hidden-the_row-StatementSketch-0 body.now))

else_sketch : (e : ExpressionSketch) (body other : Bor (List sketches.StatementSketch)) → statement (sketches.IfElse e body other) ≡ if_else (expression e) (map statement body.now) (map statement other.now)
else_sketch e body other =
    let r = row_of (sketches.IfElse e body other) in
    let s = other_of (sketches.IfElse e body other) in
    let p = all_are r.0 r.1 ∙ ap (map statement) (sketches.items_hidden-the_row-StatementSketch-0 body.now) in
    let q = all_are s.0 s.1 ∙ ap (map statement) (sketches.items_hidden-the_row-StatementSketch-0 other.now) in
    λ i. if_else (expression e) (p i) (q i)

-- a statement with a block, made of a condition and statements that were made of a sketch's
module _ (condition : Expression) (body : Vec statements.Statement Global) (e : ExpressionSketch) (of : Bor (List sketches.StatementSketch)) (tested : exp_tree condition ≡ expression e) (made : map statement_tree body.items ≡ map statement of.now) where
  pub made_while : statement_tree (statements.While nowhere condition body) ≡ statement (sketches.While e of)
  made_while =
      ap (λ (t : Jack). Node (Node t)) (while_is nowhere condition body)
      ∙ (λ i. Node (Node (Right (Right (Left (Pair (word_of keyword.While) (Pair (enclosed_term (Node (tested i))) (enclosed_term (row_is statement_tree body.items i)))))))))
      ∙ ap (while_loop (expression e)) made
      ∙ sym (while_sketch e of)

  pub made_if : statement_tree (statements.If nowhere condition body None) ≡ statement (sketches.If e of)
  made_if =
      ap (λ (t : Jack). Node (Node t)) (if_is nowhere condition body None)
      ∙ (λ i. Node (Node (Right (Left (Pair (word_of keyword.If) (Pair (enclosed_term (Node (tested i))) (Pair (enclosed_term (row_is statement_tree body.items i)) Absent)))))))
      ∙ ap (if_then (expression e)) made
      ∙ sym (if_sketch e of)

  pub made_else : (other : Vec statements.Statement Global) (otherwise : Bor (List sketches.StatementSketch)) → map statement_tree other.items ≡ map statement otherwise.now → statement_tree (statements.If nowhere condition body (Some other)) ≡ statement (sketches.IfElse e of otherwise)
  made_else other otherwise other_made =
      ap (λ (t : Jack). Node (Node t)) (if_is nowhere condition body (Some other))
      ∙ (λ i. Node (Node (Right (Left (Pair (word_of keyword.If) (Pair (enclosed_term (Node (tested i))) (Pair (enclosed_term (row_is statement_tree body.items i)) (Present (Pair Skip (enclosed_term (row_is statement_tree other.items i)))))))))))
      ∙ (λ i. if_else (expression e) (made i) (other_made i))
      ∙ sym (else_sketch e of otherwise)

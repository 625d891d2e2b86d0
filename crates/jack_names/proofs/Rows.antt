-- The rows of arguments and statements in trees use what their vectors hold.
use Rattle.std.proofs.Common.{◌≡◌, ℕ, List, [], ◌∷◌, ◌++◌, length, Option, Some, None, refl, sym, ap, ◌∙◌, arith, Vec, Global}
use mathlib.Core.Former.{Count}
use Rattle.scan_text.specs.declared.Place.{Place}
use Rattle.jack_tree.specs.declared.tree.Term.{Term}
use Rattle.jack_tree.specs.declared.tree.Operation.{Operation}
use Rattle.jack_tree.specs.declared.tree.Call.{Call, Call', Call-F, out-Call, outs-Call', Row_of-Expression, end_of-Expression, more_of-Expression, items-the_row-Expression, items_shown-the_row-Expression-0}
use Rattle.jack_tree.specs.declared.tree.Expression.{Expression, Expression', Expression-F, out-Expression, outs-Expression', Row_of-Operation, end_of-Operation, more_of-Operation, items-the_row-Operation, items_shown-the_row-Operation-1}
use Rattle.jack_tree.specs.declared.tree.Statement as statements
use Rattle.jack_names.specs.Inner.Uses.{Use, Calls, row_length, operator_uses, term_uses, exp_uses, rest_uses, row_uses, operations_uses, arguments_uses, call_uses, statement_uses, block_uses, statements_uses}

length_is : (n : _) (row : Row_of-Expression n) → row_length row ≡ length (items-the_row-Expression n row)
length_is n end_of-Expression = refl
length_is n (more_of-Expression e es) = let h = length_is _ es in omega (arith, h)

row_is : (n : _) (row : Row_of-Expression n) → row_uses row ≡ arguments_uses (items-the_row-Expression n row)
row_is n end_of-Expression = refl
row_is n (more_of-Expression e es) = ap (λ (x : List Use). exp_uses e ++ x) (row_is _ es)

abbrev pub OneCall : Type 0
OneCall = Call-F Term Call Expression Operation

abbrev uses_of_call : OneCall → List Use
uses_of_call c = Calls c.object c.name (length c.arguments.items) ∷ arguments_uses c.arguments.items

-- a call, by its parts
pub call_is : (c : Call) → call_uses c ≡ Calls (out-Call c).object (out-Call c).name (length (out-Call c).arguments.items) ∷ arguments_uses (out-Call c).arguments.items
call_is (Call' o x p es) =
    ap (λ (n : ℕ). Calls o x n ∷ row_uses es) (length_is _ es) ∙ ap (λ (u : List Use). Calls o x (length (items-the_row-Expression _ es)) ∷ u) (row_is _ es)
    ∙ ap (λ (xs : List Expression). Calls o x (length xs) ∷ arguments_uses xs) (sym (items_shown-the_row-Expression-0 p es))
    ∙ ap uses_of_call (sym (outs-Call' o x p es))

rest_is : (n : _) (row : Row_of-Operation n) → rest_uses row ≡ operations_uses (items-the_row-Operation n row)
rest_is n end_of-Operation = refl
rest_is n (more_of-Operation o at t os) = ap (λ (x : List Use). (operator_uses o at ++ term_uses t) ++ x) (rest_is _ os)

abbrev pub OneExpression : Type 0
OneExpression = Expression-F Term Call Expression Operation

abbrev uses_of : OneExpression → List Use
uses_of e = term_uses e.first ++ operations_uses e.rest.items

-- an expression, by its parts
pub exp_is : (e : Expression) → exp_uses e ≡ term_uses (out-Expression e).first ++ operations_uses (out-Expression e).rest.items
exp_is (Expression' t p os) =
    ap (λ (x : List Use). term_uses t ++ x) (rest_is _ os ∙ ap operations_uses (sym (items_shown-the_row-Operation-1 p os)))
    ∙ ap uses_of (sym (outs-Expression' t p os))

block_is : (n : _) (row : statements.Row_of-Statement n) → block_uses row ≡ statements_uses (statements.items-the_row-Statement n row)
block_is n statements.end_of-Statement = refl
block_is n (statements.more_of-Statement s ss) = ap (λ (x : List Use). statement_uses s ++ x) (block_is _ ss)

abbrev pub first_row : statements.Statement → (n : Count) × statements.Row_of-Statement n
first_row (statements.While' at e _ row) = (_, row)
first_row (statements.If' at e _ row other) = (_, row)
first_row _ = (_, statements.end_of-Statement)

abbrev pub held : statements.Held-Statement-If-3 → (n : Count) × statements.Row_of-Statement n
held statements.None' = (_, statements.end_of-Statement)
held (statements.Some' _ row) = (_, row)

abbrev pub second_row : statements.Statement → (n : Count) × statements.Row_of-Statement n
second_row (statements.If' at e _ row other) = held other
second_row _ = (_, statements.end_of-Statement)

pub while_uses : (at : Place) (e : Expression) (body : Vec statements.Statement Global) → statement_uses (statements.While at e body) ≡ exp_uses e ++ statements_uses body.items
while_uses at e body =
    let row = first_row (statements.While at e body) in
    ap (λ (x : List Use). exp_uses e ++ x) (block_is row.0 row.1 ∙ ap statements_uses (statements.items_hidden-the_row-Statement-0 body))

abbrev pub else_uses : Option (Vec statements.Statement Global) → List Use
else_uses None = []
else_uses (Some v) = statements_uses v.items

pub if_uses : (at : Place) (e : Expression) (a : Vec statements.Statement Global) (b : Option (Vec statements.Statement Global)) → statement_uses (statements.If at e a b) ≡ exp_uses e ++ (statements_uses a.items ++ else_uses b)
if_uses at e a None =
    let row = first_row (statements.If at e a None) in
    ap (λ (x : List Use). exp_uses e ++ (x ++ [])) (block_is row.0 row.1 ∙ ap statements_uses (statements.items_hidden-the_row-Statement-0 a))
if_uses at e a (Some v) =
    let row = first_row (statements.If at e a (Some v)) in
    let other = second_row (statements.If at e a (Some v)) in
    let p = block_is row.0 row.1 ∙ ap statements_uses (statements.items_hidden-the_row-Statement-0 a) in
    let q = block_is other.0 other.1 ∙ ap statements_uses (statements.items_hidden-the_row-Statement-0 v) in
    λ i. exp_uses e ++ (p i ++ q i)

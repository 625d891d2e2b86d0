-- The uses of a tree are those of its abstract syntax.
use Rattle.std.proofs.Common.{◌≡◌, ℕ, ◌+◌, List, [], ◌∷◌, ◌++◌, Option, Some, None, refl, sym, ap, ◌∙◌, append_assoc, append-nil}
use Rattle.scan_text.specs.declared.Place.{Place}
use Rattle.jack_tree.specs.Syntax as tree
use Rattle.jack_tree.specs.Seen.{the_name, the_operator, the_constant, the_object, the_expression, the_operations, the_term, the_call, the_arguments, the_value, unbox, the_statement, the_row, the_choice, the_statements, the_form, the_subroutine}
use Rattle.jack_tree.specs.declared.tree.Name.{Name}
use Rattle.jack_tree.specs.declared.tree.Operator.{Operator}
use Rattle.jack_tree.specs.declared.tree.Operator.TheVariants as operator
use Rattle.jack_tree.specs.declared.tree.Constant.{Constant}
use Rattle.jack_tree.specs.declared.tree.Constant.TheVariants as constant
use Rattle.jack_tree.specs.declared.tree.Call.{Call, Call', Row_of-Expression, end_of-Expression, more_of-Expression}
use Rattle.jack_tree.specs.declared.tree.Term as terms
use Rattle.jack_tree.specs.declared.tree.Expression.{Expression, Expression', Row_of-Operation, end_of-Operation, more_of-Operation}
use Rattle.jack_tree.specs.declared.tree.Statement as statements
use Rattle.jack_tree.specs.declared.tree.Form.{Form}
use Rattle.jack_tree.specs.declared.tree.Form.TheVariants as form
use Rattle.jack_tree.specs.declared.tree.Subroutine.{Subroutine}
use Rattle.jack_names.specs.Inner.Uses as code
use Rattle.jack_names.specs.Using as plain

-- what one use is there
abbrev pub points : code.Use → List plain.Use
points (code.Variable x) = plain.OfVariable (the_name x) ∷ []
points (code.This at) = plain.OfThis at ∷ []
points (code.Calls o f n) = plain.front_uses (the_object o) ++ plain.OfCall (the_object o) (the_name f) n ∷ []
points (code.Makes c f n at) = plain.OfMade (plain.by_class c f n at) ∷ []
points (code.Text t) = plain.OfString (the_name t) ∷ []

abbrev pub all_points : List code.Use → List plain.Use
all_points [] = []
all_points (u ∷ us) = points u ++ all_points us

points-append : (xs ys : List code.Use) → all_points (xs ++ ys) ≡ all_points xs ++ all_points ys
points-append [] ys = refl
points-append (x ∷ xs) ys = ap (λ (l : List plain.Use). points x ++ l) (points-append xs ys) ∙ sym (append_assoc (points x) (all_points xs) (all_points ys))

both : (a b : List code.Use) (c d : List plain.Use) → c ≡ all_points a → d ≡ all_points b → c ++ d ≡ all_points (a ++ b)
both a b c d p q = (λ i. p i ++ q i) ∙ sym (points-append a b)

operator_same : (o : Operator) (at : Place) → plain.operator_uses (the_operator o) at ≡ all_points (code.operator_uses o at)
operator_same operator.Plus at = refl
operator_same operator.Minus at = refl
operator_same operator.Times at = refl
operator_same operator.Divide at = refl
operator_same operator.And at = refl
operator_same operator.Or at = refl
operator_same operator.Less at = refl
operator_same operator.Greater at = refl
operator_same operator.Equal at = refl

constant_same : (c : Constant) → plain.constant_uses (the_constant c) ≡ all_points (code.constant_uses c)
constant_same (constant.Integer n) = refl
constant_same (constant.Text t) = refl
constant_same constant.True = refl
constant_same constant.False = refl
constant_same constant.Null = refl
constant_same (constant.This at) = refl

count_same : {n : _} (es : Row_of-Expression n) → plain.count (the_arguments es) ≡ code.row_length es
count_same end_of-Expression = refl
count_same (more_of-Expression e es) = ap (λ (k : ℕ). 1 + k) (count_same es)

call_by : (o : Option Name) (f : Name) (n m : ℕ) (us : List code.Use) (rest : List plain.Use) → m ≡ n → rest ≡ all_points us
    → plain.front_uses (the_object o) ++ plain.OfCall (the_object o) (the_name f) m ∷ rest ≡ all_points (code.Calls o f n ∷ us)
call_by None f n m us rest p q = λ i. plain.OfCall None (the_name f) (p i) ∷ q i
call_by (Some x) f n m us rest p q = λ i. plain.OfFront (the_name x) ∷ plain.OfCall (Some (the_name x)) (the_name f) (p i) ∷ q i

mutual
  term_same : (t : terms.Term) → plain.term_uses (the_term t) ≡ all_points (code.term_uses t)
  term_same (terms.Constant c) = constant_same c
  term_same (terms.Variable x) = refl
  term_same (terms.Element' x p e) = ap (λ (l : List plain.Use). plain.OfVariable (the_name x) ∷ l) (expression_same e)
  term_same (terms.Call' p c) = call_same c
  term_same (terms.Group' p e) = expression_same e
  term_same (terms.Unary' s p t) = term_same t

  call_same : (c : Call) → plain.call_uses (the_call c) ≡ all_points (code.call_uses c)
  call_same (Call' o f n es) = call_by o f (code.row_length es) (plain.count (the_arguments es)) (code.row_uses es) (plain.arguments_uses (the_arguments es)) (count_same es) (arguments_same es)

  expression_same : (e : Expression) → plain.expression_uses (the_expression e) ≡ all_points (code.exp_uses e)
  expression_same (Expression' t n os) = both (code.term_uses t) (code.rest_uses os) (plain.term_uses (the_term t)) (plain.operations_uses (the_operations os)) (term_same t) (operations_same os)

  operations_same : {n : _} (os : Row_of-Operation n) → plain.operations_uses (the_operations os) ≡ all_points (code.rest_uses os)
  operations_same end_of-Operation = refl
  operations_same (more_of-Operation o at t os) =
      both (code.operator_uses o at ++ code.term_uses t) (code.rest_uses os) (plain.operator_uses (the_operator o) at ++ plain.term_uses (the_term t)) (plain.operations_uses (the_operations os))
      (both (code.operator_uses o at) (code.term_uses t) (plain.operator_uses (the_operator o) at) (plain.term_uses (the_term t)) (operator_same o at) (term_same t)) (operations_same os)

  arguments_same : {n : _} (es : Row_of-Expression n) → plain.arguments_uses (the_arguments es) ≡ all_points (code.row_uses es)
  arguments_same end_of-Expression = refl
  arguments_same (more_of-Expression e es) =
      both (code.exp_uses e) (code.row_uses es) (plain.expression_uses (the_expression e)) (plain.arguments_uses (the_arguments es)) (expression_same e) (arguments_same es)

optional_same : (v : Option Expression) → plain.optional_uses (the_value v) ≡ all_points (code.optional_uses v)
optional_same None = refl
optional_same (Some e) = expression_same e

mutual
  statement_same : (s : statements.Statement) → plain.statement_uses (the_statement s) ≡ all_points (code.statement_uses s)
  statement_same (statements.Let at x i e) =
      ap (λ (l : List plain.Use). plain.OfVariable (the_name x) ∷ l)
      (both (code.optional_uses (unbox i)) (code.exp_uses e) (plain.optional_uses (the_value (unbox i))) (plain.expression_uses (the_expression e)) (optional_same (unbox i)) (expression_same e))
  statement_same (statements.If' at e n a b) = choice_same at e (code.block_uses a) (the_row a) (block_same a) b
  statement_same (statements.While' at e n a) = both (code.exp_uses e) (code.block_uses a) (plain.expression_uses (the_expression e)) (plain.statements_uses (the_row a)) (expression_same e) (block_same a)
  statement_same (statements.Do at c) = call_same c
  statement_same (statements.Return at v) = optional_same v

  block_same : {n : _} (ss : statements.Row_of-Statement n) → plain.statements_uses (the_row ss) ≡ all_points (code.block_uses ss)
  block_same statements.end_of-Statement = refl
  block_same (statements.more_of-Statement s ss) = both (code.statement_uses s) (code.block_uses ss) (plain.statement_uses (the_statement s)) (plain.statements_uses (the_row ss)) (statement_same s) (block_same ss)

  choice_same : (at : Place) (e : Expression) (us : List code.Use) (a : tree.Statements) → plain.statements_uses a ≡ all_points us → (b : statements.Held-Statement-If-3)
      → plain.statement_uses (the_choice at (the_expression e) a b) ≡ all_points (code.exp_uses e ++ (us ++ code.other_uses b))
  choice_same at e us a p statements.None' =
      both (code.exp_uses e) (us ++ []) (plain.expression_uses (the_expression e)) (plain.statements_uses a) (expression_same e) (p ∙ ap all_points (sym (append-nil us)))
  choice_same at e us a p (statements.Some' n b) =
      both (code.exp_uses e) (us ++ code.block_uses b) (plain.expression_uses (the_expression e)) (plain.statements_uses a ++ plain.statements_uses (the_row b)) (expression_same e)
      (both us (code.block_uses b) (plain.statements_uses a) (plain.statements_uses (the_row b)) p (block_same b))

statements_same : (ss : List statements.Statement) → plain.statements_uses (the_statements ss) ≡ all_points (code.statements_uses ss)
statements_same [] = refl
statements_same (s ∷ ss) = both (code.statement_uses s) (code.statements_uses ss) (plain.statement_uses (the_statement s)) (plain.statements_uses (the_statements ss)) (statement_same s) (statements_same ss)

form_same : (f : Form) (at : Place) → plain.form_uses (the_form f) at ≡ all_points (code.form_uses f at)
form_same form.Constructor at = refl
form_same form.Function at = refl
form_same form.Method at = refl

pub uses_same : (s : Subroutine) → plain.subroutine_uses (the_subroutine s) ≡ all_points (code.subroutine_uses s)
uses_same s =
    both (code.form_uses s.form s.name.place) (code.statements_uses s.statements.items) (plain.form_uses (the_form s.form) s.name.place) (plain.statements_uses (the_statements s.statements.items))
    (form_same s.form s.name.place) (statements_same s.statements.items)

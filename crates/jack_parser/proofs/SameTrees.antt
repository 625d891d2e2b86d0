-- A tree of the code and its abstract syntax are the same tree of the grammar.
use Rattle.std.proofs.Common.{◌≡◌, List, [], ◌∷◌, map, Option, Some, None, refl, ap}
use Rattle.std.specs.Prelude.{Box}
use Rattle.std.specs.Global.{Global}
use Rattle.scan_text.specs.declared.Place.{Place}
use Rattle.grammar.specs.Rules as rules
use Rattle.grammar.specs.Rules.{Tree, Leaf, Node, Pair, Skip, Left, Right, Absent, Present, NoMore, tree_of_list}
use Rattle.jack_tree.specs.declared.token.Keyword.TheVariants as keyword
use Rattle.jack_tree.specs.declared.tree.Names.{Names}
use Rattle.jack_tree.specs.declared.tree.Operator.{Operator}
use Rattle.jack_tree.specs.declared.tree.Operator.TheVariants as operator
use Rattle.jack_tree.specs.declared.tree.Sign.{Sign}
use Rattle.jack_tree.specs.declared.tree.Sign.TheVariants as sign
use Rattle.jack_tree.specs.declared.tree.Constant.{Constant}
use Rattle.jack_tree.specs.declared.tree.Constant.TheVariants as constant
use Rattle.jack_tree.specs.declared.tree.Call.{Call, Call', Row_of-Expression, end_of-Expression, more_of-Expression}
use Rattle.jack_tree.specs.declared.tree.Term as terms
use Rattle.jack_tree.specs.declared.tree.Expression.{Expression, Expression', Row_of-Operation, end_of-Operation, more_of-Operation}
use Rattle.jack_tree.specs.declared.tree.Statement as statements
use Rattle.jack_tree.specs.declared.tree.Type as types
use Rattle.jack_tree.specs.declared.tree.Type.TheVariants as variant
use Rattle.jack_tree.specs.declared.tree.Scope.{Scope}
use Rattle.jack_tree.specs.declared.tree.Scope.TheVariants as scope
use Rattle.jack_tree.specs.declared.tree.Form.{Form}
use Rattle.jack_tree.specs.declared.tree.Form.TheVariants as form
use Rattle.jack_tree.specs.declared.tree.ClassVariables.{ClassVariables}
use Rattle.jack_tree.specs.declared.tree.Locals.{Locals}
use Rattle.jack_tree.specs.declared.tree.Parameter.{Parameter}
use Rattle.jack_tree.specs.declared.tree.Subroutine.{Subroutine}
use Rattle.jack_tree.specs.declared.tree.Class.{Class}
use Rattle.jack_tree.specs.Syntax.{Statements}
use Rattle.jack_tree.specs.Seen.{the_name, the_operator, the_sign, the_constant, the_expression, the_operations, the_term, the_call, the_arguments, the_value, unbox, the_statement, the_row, the_choice, the_statements, the_type, the_result, the_names, the_variables, the_locals, the_parameter, the_form, the_subroutine, the_class}
use Rattle.jack_parser.specs.Grammar.{Said}
use Rattle.jack_parser.specs.Trees as code
use Rattle.jack_parser.specs.StatementTrees as code_statements
use Rattle.jack_parser.specs.ClassTrees as code_classes
use Rattle.jack_parser.specs.ClassTrees.{close_leaf}
use Rattle.jack_parser.specs.Spells as code_whole
use Rattle.jack_parser.proofs.PlainTrees.{name_said, operator_said, sign_said, constant_said, enclosed, expression_tree, operations_tree, term_tree, arguments_tree, further_tree, front_said, invoked_tree, key_leaf, index_tree, value_tree, statement_tree, statements_tree, type_said, result_said, form_said, next_name_tree, declared_tree, variables_tree, locals_tree, parameter_tree, next_parameter_tree, parameters_tree, subroutine_tree, whole_tree}

operator_same : (o : Operator) (at : Place) → code.operator_said o at ≡ operator_said (the_operator o) at
operator_same operator.Plus at = refl
operator_same operator.Minus at = refl
operator_same operator.Times at = refl
operator_same operator.Divide at = refl
operator_same operator.And at = refl
operator_same operator.Or at = refl
operator_same operator.Less at = refl
operator_same operator.Greater at = refl
operator_same operator.Equal at = refl

sign_same : (s : Sign) → code.sign_said s ≡ sign_said (the_sign s)
sign_same sign.Minus = refl
sign_same sign.Not = refl
sign_same sign.ShiftLeft = refl
sign_same sign.ShiftRight = refl

constant_same : (c : Constant) → code.constant_leaf_said c ≡ constant_said (the_constant c)
constant_same (constant.Integer n) = refl
constant_same (constant.Text t) = refl
constant_same constant.True = refl
constant_same constant.False = refl
constant_same constant.Null = refl
constant_same (constant.This at) = refl

type_same : (t : types.Type) → code_classes.type_leaf_said t ≡ type_said (the_type t)
type_same variant.Int = refl
type_same variant.Char = refl
type_same variant.Boolean = refl
type_same (variant.Class n) = refl

result_same : (t : Option types.Type) → code_classes.result_said t ≡ result_said (the_result t)
result_same None = refl
result_same (Some t) = type_same t

form_same : (f : Form) → code_classes.form_said f ≡ form_said (the_form f)
form_same form.Constructor = refl
form_same form.Function = refl
form_same form.Method = refl

mutual
  term_same : (t : terms.Term) → code.term_tree t ≡ term_tree (the_term t)
  term_same (terms.Constant c) = ap (λ (v : Said). Node (Left (Leaf v))) (constant_same c)
  term_same (terms.Variable x) = refl
  term_same (terms.Element' x p e) = ap (λ (t : Tree Said). Node (Right (Left (Pair (Leaf (name_said (the_name x))) (Present (Left (enclosed (Node t)))))))) (expression_same e)
  term_same (terms.Call' p (Call' None f q es)) = ap (λ (t : Tree Said). Node (Right (Left (Pair (Leaf (name_said (the_name f))) (Present (Right (Left (enclosed t)))))))) (arguments_same _ es)
  term_same (terms.Call' p (Call' (Some o) f q es)) = ap (λ (t : Tree Said). Node (Right (Left (Pair (Leaf (name_said (the_name o))) (Present (Right (Right (Pair Skip (Pair (Leaf (name_said (the_name f))) (enclosed t)))))))))) (arguments_same _ es)
  term_same (terms.Group' p e) = ap (λ (t : Tree Said). Node (Right (Right (Left (enclosed (Node t)))))) (expression_same e)
  term_same (terms.Unary' s p t) = λ i. Node (Right (Right (Right (Pair (Leaf (sign_same s i)) (Node (term_same t i))))))

  expression_same : (e : Expression) → code.exp_tree e ≡ expression_tree (the_expression e)
  expression_same (Expression' t p os) = λ i. Node (Pair (term_same t i) (operations_same _ os i))

  operations_same : (n : _) (os : Row_of-Operation n) → code.rest_of os ≡ operations_tree (the_operations os)
  operations_same n end_of-Operation = refl
  operations_same n (more_of-Operation o at t os) = λ i. rules.More (Pair (Leaf (operator_same o at i)) (term_same t i)) (operations_same _ os i)

  arguments_same : (n : _) (es : Row_of-Expression n) → code.args_of es ≡ arguments_tree (the_arguments es)
  arguments_same n end_of-Expression = refl
  arguments_same n (more_of-Expression e es) = λ i. Present (Node (Pair (Node (expression_same e i)) (further_same _ es i)))

  further_same : (n : _) (es : Row_of-Expression n) → code.more_of es ≡ further_tree (the_arguments es)
  further_same n end_of-Expression = refl
  further_same n (more_of-Expression e es) = λ i. rules.More (Pair Skip (Node (expression_same e i))) (further_same _ es i)

front_same : (c : Call) → code.call_said c ≡ front_said (the_call c)
front_same (Call' None f q es) = refl
front_same (Call' (Some o) f q es) = refl

invoked_same : (c : Call) → code.invoked_tree c ≡ invoked_tree (the_call c)
invoked_same (Call' None f q es) = ap (λ (t : Tree Said). Left (enclosed t)) (arguments_same _ es)
invoked_same (Call' (Some o) f q es) = ap (λ (t : Tree Said). Right (Pair Skip (Pair (Leaf (name_said (the_name f))) (enclosed t)))) (arguments_same _ es)

index_same : (v : Option (Box Expression Global)) → code_statements.index_tree v ≡ index_tree (the_value (unbox v))
index_same None = refl
index_same (Some e) = ap (λ (t : Tree Said). Present (enclosed (Node t))) (expression_same e.value)

value_same : (v : Option Expression) → code_statements.value_tree v ≡ value_tree (the_value v)
value_same None = refl
value_same (Some e) = ap Present (expression_same e)

mutual
  statement_same : (s : statements.Statement) → code_statements.any_tree s ≡ statement_tree (the_statement s)
  statement_same (statements.Let at x v e) = λ i. Left (Pair (key_leaf keyword.Let at) (Pair (Leaf (name_said (the_name x))) (Pair (index_same v i) (enclosed (expression_same e i)))))
  statement_same (statements.If' at e n body other) = choice_same at e _ (the_row body) (row_same _ body) other
  statement_same (statements.While' at e n body) = λ i. Right (Right (Left (Pair (key_leaf keyword.While at) (Pair (enclosed (Node (expression_same e i))) (enclosed (row_same _ body i))))))
  statement_same (statements.Do at c) = λ i. Right (Right (Right (Left (Pair (key_leaf keyword.Do at) (Pair (Leaf (front_same c i)) (Pair (invoked_same c i) Skip))))))
  statement_same (statements.Return at v) = λ i. Right (Right (Right (Right (Pair (key_leaf keyword.Return at) (Pair (value_same v i) Skip)))))

  choice_same : (at : Place) (e : Expression) (row : Tree Said) (body : Statements) → row ≡ statements_tree body → (other : statements.Held-Statement-If-3)
      → Right (Left (Pair (key_leaf keyword.If at) (Pair (enclosed (Node (code.exp_tree e))) (Pair (enclosed row) (code_statements.other_tree other))))) ≡ statement_tree (the_choice at (the_expression e) body other)
  choice_same at e row body p statements.None' = λ i. Right (Left (Pair (key_leaf keyword.If at) (Pair (enclosed (Node (expression_same e i))) (Pair (enclosed (p i)) Absent))))
  choice_same at e row body p (statements.Some' m other) = λ i. Right (Left (Pair (key_leaf keyword.If at) (Pair (enclosed (Node (expression_same e i))) (Pair (enclosed (p i)) (Present (Pair Skip (enclosed (row_same _ other i))))))))

  row_same : (n : _) (ss : statements.Row_of-Statement n) → code_statements.row_tree ss ≡ statements_tree (the_row ss)
  row_same n statements.end_of-Statement = refl
  row_same n (statements.more_of-Statement s ss) = λ i. rules.More (Node (Node (statement_same s i))) (row_same _ ss i)

statements_same : (ss : List statements.Statement) → code_statements.statements_tree ss ≡ statements_tree (the_statements ss)
statements_same [] = refl
statements_same (s ∷ ss) = λ i. rules.More (Node (Node (statement_same s i))) (statements_same ss i)

module _ {X Y : Type 0} (tree : X → Tree Said) (the : X → Y) (plain : Y → Tree Said) (same : (x : X) → tree x ≡ plain (the x)) where
  listed_same : (xs : List X) → tree_of_list tree xs NoMore ≡ tree_of_list plain (map the xs) NoMore
  listed_same [] = refl
  listed_same (x ∷ xs) = λ i. rules.More (same x i) (listed_same xs i)

declared_same : (t : types.Type) (ns : Names) → code_classes.declared_tree t ns ≡ declared_tree (the_type t) (the_names ns)
declared_same t ns =
    let more = listed_same code_classes.next_name_tree the_name next_name_tree (λ n. refl) ns.more.items in
    λ i. Pair Skip (Pair (Leaf (type_same t i)) (Pair (Pair (Leaf (name_said (the_name ns.first))) (more i)) Skip))

scoped_same : (s : Scope) (t : types.Type) (ns : Names) → code_classes.variables_tree (record { scope = s; kind = t; names = ns }) ≡ variables_tree (the_variables (record { scope = s; kind = t; names = ns }))
scoped_same scope.Static t ns = ap Left (declared_same t ns)
scoped_same scope.Field t ns = ap Right (declared_same t ns)

variables_same : (v : ClassVariables) → code_classes.variables_tree v ≡ variables_tree (the_variables v)
variables_same v = scoped_same v.scope v.kind v.names

locals_same : (v : Locals) → code_classes.locals_tree v ≡ locals_tree (the_locals v)
locals_same v = declared_same v.kind v.names

parameter_same : (p : Parameter) → code_classes.parameter_tree p ≡ parameter_tree (the_parameter p)
parameter_same p = ap (λ (v : Said). Pair (Leaf v) (Leaf (name_said (the_name p.name)))) (type_same p.kind)

parameters_same : (ps : List Parameter) → code_classes.parameters_tree ps ≡ parameters_tree (map the_parameter ps)
parameters_same [] = refl
parameters_same (p ∷ ps) =
    let more = listed_same code_classes.next_parameter_tree the_parameter next_parameter_tree (λ q. ap (λ (t : Tree Said). Pair Skip t) (parameter_same q)) ps in
    λ i. Present (Pair (parameter_same p i) (more i))

pub subroutine_same : (s : Subroutine) → code_classes.subroutine_tree s ≡ subroutine_tree (the_subroutine s)
subroutine_same s =
    let ps = parameters_same s.parameters.items in
    let ls = listed_same code_classes.locals_tree the_locals locals_tree locals_same s.locals.items in
    let ss = statements_same s.statements.items in
    λ i. Node (Pair (Leaf (form_same s.form i)) (Pair (Leaf (result_same s.result i)) (Pair (Leaf (name_said (the_name s.name))) (Pair Skip (Pair (ps i) (Pair Skip (Pair Skip
    (Pair (ls i) (Pair (ss i) (close_leaf s.close))))))))))

pub class_same : (c : Class) → code_whole.whole_tree c ≡ whole_tree (the_class c)
class_same c =
    let vs = listed_same code_classes.variables_tree the_variables variables_tree variables_same c.variables.items in
    let ss = listed_same code_classes.subroutine_tree the_subroutine subroutine_tree subroutine_same c.subroutines.items in
    λ i. Pair (Pair Skip (Pair (Leaf (name_said (the_name c.name))) (Pair Skip (Pair (vs i) (Pair (ss i) Skip))))) Skip

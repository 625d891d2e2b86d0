-- The leaves of a tree of the code are the tokens of its abstract syntax.
use Rattle.std.proofs.Common.{◌≡◌, ℕ, List, [], ◌∷◌, ◌++◌, map, Option, Some, None, refl, ap, ◌∙◌}
use Rattle.std.specs.Prelude.{Box}
use Rattle.std.specs.Global.{Global}
use Rattle.std.proofs.lemmas.List.{append-nil}
use Rattle.std.specs.List.{flat_map}
use Rattle.scan_text.specs.declared.Place.{Place}
use Rattle.grammar.specs.Rules.{repeat, option, name, NoMore, tree_of_list}
use Rattle.grammar.specs.Leaves.{leaves}
use Rattle.jack_tree.specs.declared.token.Keyword.TheVariants as keyword
use Rattle.jack_tree.specs.declared.token.Kind.TheVariants as kind
use Rattle.jack_tree.specs.declared.tree.Name.{Name}
use Rattle.jack_tree.specs.declared.tree.Names.{Names}
use Rattle.jack_tree.specs.declared.tree.Operator.{Operator}
use Rattle.jack_tree.specs.declared.tree.Operator.TheVariants as operator
use Rattle.jack_tree.specs.declared.tree.Sign.{Sign}
use Rattle.jack_tree.specs.declared.tree.Sign.TheVariants as sign
use Rattle.jack_tree.specs.declared.tree.Constant.{Constant}
use Rattle.jack_tree.specs.declared.tree.Constant.TheVariants as constant
use Rattle.jack_tree.specs.declared.tree.Call.{Call, Call', Row_of-Expression, end_of-Expression, more_of-Expression}
use Rattle.jack_tree.specs.declared.tree.Term as terms
use Rattle.jack_tree.specs.declared.tree.Expression.{Expression, Expression', Row_of-Operation, end_of-Operation, more_of-Operation}
use Rattle.jack_tree.specs.declared.tree.Statement as statements
use Rattle.jack_tree.specs.declared.tree.Type as types
use Rattle.jack_tree.specs.declared.tree.Type.TheVariants as variant
use Rattle.jack_tree.specs.declared.tree.Scope.{Scope}
use Rattle.jack_tree.specs.declared.tree.Scope.TheVariants as scope
use Rattle.jack_tree.specs.declared.tree.Form.{Form}
use Rattle.jack_tree.specs.declared.tree.Form.TheVariants as form
use Rattle.jack_tree.specs.declared.tree.ClassVariables.{ClassVariables}
use Rattle.jack_tree.specs.declared.tree.Locals.{Locals}
use Rattle.jack_tree.specs.declared.tree.Parameter.{Parameter}
use Rattle.jack_tree.specs.declared.tree.Subroutine.{Subroutine}
use Rattle.jack_tree.specs.declared.tree.Class.{Class}
use Rattle.jack_tree.specs.Syntax.{Statements}
use Rattle.jack_tree.specs.Seen.{the_name, the_operator, the_sign, the_constant, the_expression, the_operations, the_term, the_call, the_arguments, the_value, unbox, the_statement, the_row, the_choice, the_statements, the_type, the_result, the_names, the_scope, the_variables, the_locals, the_parameter, the_form, the_subroutine, the_class}
use Rattle.jack_parser.specs.declared.counts.Counted.{Counted}
use Rattle.jack_parser.specs.declared.counts.Counted.TheVariants as counted
use Rattle.jack_parser.specs.Grammar as grammar
use Rattle.jack_parser.specs.Grammar.{jack, JackRule, Said, Fixed, Placed, expression, term, statement, whole}
use Rattle.jack_parser.specs.Trees.{name_said, operator_said, sign_said, constant_leaf_said, call_said, term_tree, invoked_tree, exp_tree, rest_of, args_of, more_of, group_tree}
use Rattle.jack_parser.specs.StatementTrees.{index_tree, value_tree, any_tree, row_tree, other_tree, statements_tree}
use Rattle.jack_parser.specs.ClassTrees.{type_leaf_said, result_said, form_said, next_name_tree, names_tree, variables_tree, locals_tree, parameter_tree, next_parameter_tree, parameters_tree, subroutine_tree}
use Rattle.jack_parser.specs.Spells.{whole_tree}
use Rattle.jack_parser.specs.Spelling as spelling
use Rattle.jack_parser.specs.Spelling.{Tokens, operator_tokens, sign_tokens, constant_tokens, expression_tokens, operations_tokens, term_tokens, call_tokens, arguments_tokens, further_tokens, index_tokens, value_tokens, condition_tokens, statement_tokens, statements_tokens, type_tokens, result_tokens, names_tokens, scope_tokens, variables_tokens, locals_tokens, parameter_tokens, parameters_tokens, form_tokens, subroutine_tokens, class_tokens}

abbrev sign_of : ℕ → Said
sign_of b = Fixed (kind.Symbol b)

abbrev in_signs : ℕ → ℕ → Tokens → Tokens
in_signs b c l = sign_of b ∷ (l ++ sign_of c ∷ [])

operator_seen : (o : Operator) (at : Place) → operator_said o at ∷ [] ≡ operator_tokens (the_operator o) at
operator_seen operator.Plus at = refl
operator_seen operator.Minus at = refl
operator_seen operator.Times at = refl
operator_seen operator.Divide at = refl
operator_seen operator.And at = refl
operator_seen operator.Or at = refl
operator_seen operator.Less at = refl
operator_seen operator.Greater at = refl
operator_seen operator.Equal at = refl

sign_seen : (s : Sign) → sign_said s ∷ [] ≡ sign_tokens (the_sign s)
sign_seen sign.Minus = refl
sign_seen sign.Not = refl
sign_seen sign.ShiftLeft = refl
sign_seen sign.ShiftRight = refl

constant_seen : (c : Constant) → constant_leaf_said c ∷ [] ≡ constant_tokens (the_constant c)
constant_seen (constant.Integer n) = refl
constant_seen (constant.Text t) = refl
constant_seen constant.True = refl
constant_seen constant.False = refl
constant_seen constant.Null = refl
constant_seen (constant.This at) = refl

type_seen : (t : types.Type) → type_leaf_said t ∷ [] ≡ type_tokens (the_type t)
type_seen variant.Int = refl
type_seen variant.Char = refl
type_seen variant.Boolean = refl
type_seen (variant.Class n) = refl

result_seen : (t : Option types.Type) → result_said t ∷ [] ≡ result_tokens (the_result t)
result_seen None = refl
result_seen (Some t) = type_seen t

form_seen : (f : Form) → form_said f ∷ [] ≡ form_tokens (the_form f)
form_seen form.Constructor = refl
form_seen form.Function = refl
form_seen form.Method = refl

-- the text ends at this place
module _ (end : Place) where
  mutual
    term_seen : (t : terms.Term) → leaves (jack end) (term_tree t) (name term) ≡ term_tokens (the_term t)
    term_seen (terms.Constant c) = constant_seen c
    term_seen (terms.Variable x) = refl
    term_seen (terms.Element' x p e) = ap (λ (l : Tokens). name_said x ∷ in_signs 91 93 l) (exp_seen e)
    term_seen (terms.Call' p c) = call_seen c
    term_seen (terms.Group' p e) = ap (in_signs 40 41) (exp_seen e)
    term_seen (terms.Unary' s p t) = λ i. sign_seen s i ++ term_seen t i

    call_seen : (c : Call) → call_said c ∷ leaves (jack end) (invoked_tree c) grammar.invocation_rule ≡ call_tokens (the_call c)
    call_seen (Call' None f p es) = ap (λ (l : Tokens). name_said f ∷ in_signs 40 41 l) (args_seen _ es)
    call_seen (Call' (Some o) f p es) = ap (λ (l : Tokens). name_said o ∷ sign_of 46 ∷ name_said f ∷ in_signs 40 41 l) (args_seen _ es)

    exp_seen : (e : Expression) → leaves (jack end) (exp_tree e) (name expression) ≡ expression_tokens (the_expression e)
    exp_seen (Expression' t p os) = λ i. term_seen t i ++ rest_seen _ os i

    rest_seen : (n : _) (os : Row_of-Operation n) → leaves (jack end) (rest_of os) (repeat grammar.operation) ≡ operations_tokens (the_operations os)
    rest_seen n end_of-Operation = refl
    rest_seen n (more_of-Operation o at t os) = λ i. operator_seen o at i ++ (term_seen t i ++ rest_seen _ os i)

    args_seen : (n : _) (es : Row_of-Expression n) → leaves (jack end) (args_of es) grammar.arguments ≡ arguments_tokens (the_arguments es)
    args_seen n end_of-Expression = refl
    args_seen n (more_of-Expression e es) = λ i. exp_seen e i ++ more_seen _ es i

    more_seen : (n : _) (es : Row_of-Expression n) → leaves (jack end) (more_of es) (repeat grammar.next_argument) ≡ further_tokens (the_arguments es)
    more_seen n end_of-Expression = refl
    more_seen n (more_of-Expression e es) = λ i. sign_of 44 ∷ (exp_seen e i ++ more_seen _ es i)

  index_seen : (v : Option (Box Expression Global)) → leaves (jack end) (index_tree v) (option grammar.subscript) ≡ index_tokens (the_value (unbox v))
  index_seen None = refl
  index_seen (Some e) = ap (in_signs 91 93) (exp_seen e.value)

  value_seen : (v : Option Expression) → leaves (jack end) (value_tree v) (option (name expression)) ≡ value_tokens (the_value v)
  value_seen None = refl
  value_seen (Some e) = exp_seen e

  condition_seen : (e : Expression) → leaves (jack end) (group_tree e) grammar.group ≡ condition_tokens (the_expression e)
  condition_seen e = ap (in_signs 40 41) (exp_seen e)

  mutual
    statement_seen : (s : statements.Statement) → leaves (jack end) (any_tree s) grammar.any_statement ≡ statement_tokens (the_statement s)
    statement_seen (statements.Let at n v e) = λ i. Placed (kind.Keyword keyword.Let) [] at ∷ name_said n ∷ (index_seen v i ++ in_signs 61 59 (exp_seen e i))
    statement_seen (statements.If' at e n body other) = choice_seen at e _ (the_row body) (row_seen _ body) other
    statement_seen (statements.While' at e n body) = λ i. Placed (kind.Keyword keyword.While) [] at ∷ (condition_seen e i ++ in_signs 123 125 (row_seen _ body i))
    statement_seen (statements.Do at c) = ap (λ (l : Tokens). Placed (kind.Keyword keyword.Do) [] at ∷ (l ++ sign_of 59 ∷ [])) (call_seen c)
    statement_seen (statements.Return at v) = ap (λ (l : Tokens). Placed (kind.Keyword keyword.Return) [] at ∷ (l ++ sign_of 59 ∷ [])) (value_seen v)

    choice_seen : (at : Place) (e : Expression) (row : Tokens) (body : Statements) → row ≡ statements_tokens body → (other : statements.Held-Statement-If-3)
        → Placed (kind.Keyword keyword.If) [] at ∷ (leaves (jack end) (group_tree e) grammar.group ++ (in_signs 123 125 row ++ leaves (jack end) (other_tree other) (option grammar.else_rule)))
        ≡ statement_tokens (the_choice at (the_expression e) body other)
    choice_seen at e row body p statements.None' = λ i. Placed (kind.Keyword keyword.If) [] at ∷ (condition_seen e i ++ (append-nil (in_signs 123 125 (p i)) i))
    choice_seen at e row body p (statements.Some' m other) = λ i. Placed (kind.Keyword keyword.If) [] at ∷ (condition_seen e i ++ (in_signs 123 125 (p i) ++ (Fixed (kind.Keyword keyword.Else) ∷ in_signs 123 125 (row_seen _ other i))))

    row_seen : (n : _) (ss : statements.Row_of-Statement n) → leaves (jack end) (row_tree ss) (repeat (name statement)) ≡ statements_tokens (the_row ss)
    row_seen n statements.end_of-Statement = refl
    row_seen n (statements.more_of-Statement s ss) = λ i. statement_seen s i ++ row_seen _ ss i

  statements_seen : (ss : List statements.Statement) → leaves (jack end) (statements_tree ss) (repeat (name statement)) ≡ statements_tokens (the_statements ss)
  statements_seen [] = refl
  statements_seen (s ∷ ss) = λ i. statement_seen s i ++ statements_seen ss i

  -- a list of things, each of which is seen
  module _ {X Y : Type 0} (tree : X → _) (rule : JackRule) (the : X → Y) (tokens : Y → Tokens) (seen : (x : X) → leaves (jack end) (tree x) rule ≡ tokens (the x)) where
    listed_seen : (xs : List X) → leaves (jack end) (tree_of_list tree xs NoMore) (repeat rule) ≡ flat_map tokens (map the xs)
    listed_seen [] = refl
    listed_seen (x ∷ xs) = λ i. seen x i ++ listed_seen xs i

  more_names_seen : (c : Counted) (ns : List Name) → leaves (jack end) (tree_of_list next_name_tree ns NoMore) (repeat (grammar.next_name c)) ≡ flat_map (λ n. sign_of 44 ∷ spelling.name n) (map the_name ns)
  more_names_seen c ns = listed_seen next_name_tree (grammar.next_name c) the_name (λ n. sign_of 44 ∷ spelling.name n) (λ n. refl) ns

  names_seen : (c : Counted) (ns : Names) → leaves (jack end) (names_tree ns) (grammar.names_rule c) ≡ names_tokens (the_names ns)
  names_seen c ns = ap (λ (l : Tokens). name_said ns.first ∷ l) (more_names_seen c ns.more.items)

  declared_seen : (k : _) (c : Counted) (t : types.Type) (ns : Names)
      → Fixed (kind.Keyword k) ∷ type_leaf_said t ∷ (leaves (jack end) (names_tree ns) (grammar.names_rule c) ++ sign_of 59 ∷ []) ≡ Fixed (kind.Keyword k) ∷ (type_tokens (the_type t) ++ (names_tokens (the_names ns) ++ sign_of 59 ∷ []))
  declared_seen k c t ns = λ i. Fixed (kind.Keyword k) ∷ (type_seen t i ++ (names_seen c ns i ++ sign_of 59 ∷ []))

  scoped_seen : (s : Scope) (t : types.Type) (ns : Names) → leaves (jack end) (variables_tree (record { scope = s; kind = t; names = ns })) grammar.class_variables ≡ scope_tokens (the_scope s) ++ (type_tokens (the_type t) ++ (names_tokens (the_names ns) ++ sign_of 59 ∷ []))
  scoped_seen scope.Static t ns = declared_seen keyword.Static counted.Static t ns
  scoped_seen scope.Field t ns = declared_seen keyword.Field counted.Field t ns

  variables_seen : (v : ClassVariables) → leaves (jack end) (variables_tree v) grammar.class_variables ≡ variables_tokens (the_variables v)
  variables_seen v = scoped_seen v.scope v.kind v.names

  locals_seen : (v : Locals) → leaves (jack end) (locals_tree v) grammar.locals_rule ≡ locals_tokens (the_locals v)
  locals_seen v = declared_seen keyword.Var counted.Local v.kind v.names

  parameter_seen : (p : Parameter) → leaves (jack end) (parameter_tree p) grammar.parameter ≡ parameter_tokens (the_parameter p)
  parameter_seen p = λ i. type_seen p.kind i ++ name_said p.name ∷ []

  next_parameter_seen : (p : Parameter) → leaves (jack end) (next_parameter_tree p) grammar.next_parameter ≡ sign_of 44 ∷ parameter_tokens (the_parameter p)
  next_parameter_seen p = ap (λ (l : Tokens). sign_of 44 ∷ l) (parameter_seen p)

  parameters_seen : (ps : List Parameter) → leaves (jack end) (parameters_tree ps) grammar.parameters ≡ parameters_tokens (map the_parameter ps)
  parameters_seen [] = refl
  parameters_seen (p ∷ ps) = λ i. parameter_seen p i ++ listed_seen next_parameter_tree grammar.next_parameter the_parameter (λ q. sign_of 44 ∷ parameter_tokens q) next_parameter_seen ps i

  subroutine_seen : (s : Subroutine) → leaves (jack end) (subroutine_tree s) grammar.subroutine ≡ subroutine_tokens (the_subroutine s)
  subroutine_seen s =
      let f = form_seen s.form in
      let r = result_seen s.result in
      let p = parameters_seen s.parameters.items in
      let l = listed_seen locals_tree grammar.locals_rule the_locals locals_tokens locals_seen s.locals.items in
      let t = statements_seen s.statements.items in
      λ i. f i ++ (r i ++ (name_said s.name ∷ sign_of 40 ∷ (p i ++ sign_of 41 ∷ sign_of 123 ∷ (l i ++ (t i ++ Placed (kind.Symbol 125) [] s.close ∷ [])))))

  pub class_seen : (c : Class) → leaves (jack end) (whole_tree c) whole ≡ class_tokens (the_class c)
  class_seen c =
      let v = listed_seen variables_tree grammar.class_variables the_variables variables_tokens variables_seen c.variables.items in
      let s = listed_seen subroutine_tree grammar.subroutine the_subroutine subroutine_tokens subroutine_seen c.subroutines.items in
      append-nil _ ∙ (λ i. Fixed (kind.Keyword keyword.Class) ∷ name_said c.name ∷ sign_of 123 ∷ (v i ++ (s i ++ sign_of 125 ∷ [])))

-- A tree of each class.
use Rattle.std.proofs.Common.{◌≡◌, ℕ, ◌+◌, ◌<◌, ◌≤◌, ◌^◌, List, [], ◌∷◌, Option, Some, None, length, map, refl, sym, ap, ◌∙◌, arith, Vec, Global}
use Rattle.scan_text.specs.declared.Place.{Place}
use Rattle.jack_tree.specs.Syntax as tree
use Rattle.jack_tree.specs.Seen.{the_name, the_operator, the_sign, the_constant, the_object, the_expression, the_operations, the_term, the_call, the_arguments, the_value, the_statement, the_row, the_statements, the_type, the_result, the_names, the_scope, the_variables, the_locals, the_parameter, the_form, the_subroutine, the_file}
use Rattle.jack_tree.specs.declared.tree.Name.{Name}
use Rattle.jack_tree.specs.declared.tree.Operator.{Operator}
use Rattle.jack_tree.specs.declared.tree.Operator.TheVariants as operator
use Rattle.jack_tree.specs.declared.tree.Sign.{Sign}
use Rattle.jack_tree.specs.declared.tree.Sign.TheVariants as sign
use Rattle.jack_tree.specs.declared.tree.Constant.{Constant}
use Rattle.jack_tree.specs.declared.tree.Constant.TheVariants as constant
use Rattle.jack_tree.specs.declared.tree.Call.{Call, Call', out-Call, roll-Call, out-roll-Call, outs-Call', Row_of-Expression, end_of-Expression, more_of-Expression, items-the_row-Expression, items_shown-the_row-Expression-0}
use Rattle.jack_tree.specs.declared.tree.Term as terms
use Rattle.jack_tree.specs.declared.tree.Term.TheVariants as term
use Rattle.jack_tree.specs.declared.tree.Operation.{Operation}
use Rattle.jack_tree.specs.declared.tree.Expression.{Expression, Expression', out-Expression, roll-Expression, out-roll-Expression, outs-Expression', Row_of-Operation, end_of-Operation, more_of-Operation, items-the_row-Operation, items_shown-the_row-Operation-1}
use Rattle.jack_tree.specs.declared.tree.Statement as statements
use Rattle.jack_tree.specs.declared.tree.Type as types
use Rattle.jack_tree.specs.declared.tree.Type.TheVariants as type
use Rattle.jack_tree.specs.declared.tree.Names.{Names}
use Rattle.jack_tree.specs.declared.tree.Scope as scopes
use Rattle.jack_tree.specs.declared.tree.Scope.TheVariants as scope
use Rattle.jack_tree.specs.declared.tree.ClassVariables.{ClassVariables}
use Rattle.jack_tree.specs.declared.tree.Locals.{Locals}
use Rattle.jack_tree.specs.declared.tree.Parameter.{Parameter}
use Rattle.jack_tree.specs.declared.tree.Form as forms
use Rattle.jack_tree.specs.declared.tree.Form.TheVariants as form
use Rattle.jack_tree.specs.declared.tree.Subroutine.{Subroutine}
use Rattle.jack_tree.specs.declared.tree.Class.{Class}
use Rattle.jack_names.specs.Lengths.{expression_length, operations_length, term_length, call_length, arguments_length, value_length, statement_length, statements_length, total, variables_length, locals_length, subroutine_length, class_length}
use Rattle.jack_names.proofs.Held.{held, boxed}
use Rattle.jack_names.proofs.Rows.{OneCall, OneExpression, first_row, second_row}

-- ---- what trees that were made of their parts say

arguments_list : List Expression → tree.Expressions
arguments_list [] = tree.NoExpression
arguments_list (e ∷ es) = tree.More (the_expression e) (arguments_list es)

row_says : (n : _) (row : Row_of-Expression n) → the_arguments row ≡ arguments_list (items-the_row-Expression n row)
unfolding arguments_list
row_says n end_of-Expression = refl
row_says n (more_of-Expression e es) = ap (tree.More (the_expression e)) (row_says _ es)

abbrev call_of : OneCall → tree.Call
call_of c = tree.Calls (the_object c.object) (the_name c.name) (arguments_list c.arguments.items)

call_says : (c : Call) → the_call c ≡ call_of (out-Call c)
call_says (Call' o f p es) =
    ap (tree.Calls (the_object o) (the_name f)) (row_says _ es ∙ ap arguments_list (sym (items_shown-the_row-Expression-0 p es)))
    ∙ ap call_of (sym (outs-Call' o f p es))

made_call : (c : OneCall) → the_call (roll-Call c) ≡ call_of c
made_call c = call_says (roll-Call c) ∙ ap call_of (out-roll-Call c)

operations_list : List Operation → tree.Operations
operations_list [] = tree.NoOperation
operations_list (o ∷ os) = tree.Then (the_operator o.operator) o.place (the_term o.term) (operations_list os)

rest_says : (n : _) (row : Row_of-Operation n) → the_operations row ≡ operations_list (items-the_row-Operation n row)
unfolding operations_list
rest_says n end_of-Operation = refl
rest_says n (more_of-Operation o at t os) = ap (tree.Then (the_operator o) at (the_term t)) (rest_says _ os)

abbrev expression_of : OneExpression → tree.Expression
expression_of e = tree.Terms (the_term e.first) (operations_list e.rest.items)

expression_says : (e : Expression) → the_expression e ≡ expression_of (out-Expression e)
expression_says (Expression' t p os) =
    ap (tree.Terms (the_term t)) (rest_says _ os ∙ ap operations_list (sym (items_shown-the_row-Operation-1 p os)))
    ∙ ap expression_of (sym (outs-Expression' t p os))

made_expression : (e : OneExpression) → the_expression (roll-Expression e) ≡ expression_of e
made_expression e = expression_says (roll-Expression e) ∙ ap expression_of (out-roll-Expression e)

statements_say : (n : _) (row : statements.Row_of-Statement n) → the_row row ≡ the_statements (statements.items-the_row-Statement n row)
statements_say n statements.end_of-Statement = refl
statements_say n (statements.more_of-Statement s ss) = ap (tree.Next (the_statement s)) (statements_say _ ss)

while_says : (at : Place) (e : Expression) (body : Vec statements.Statement Global) → the_statement (statements.While at e body) ≡ tree.While at (the_expression e) (the_statements body.items)
while_says at e body =
    let row = first_row (statements.While at e body) in
    ap (tree.While at (the_expression e)) (statements_say row.0 row.1 ∙ ap the_statements (statements.items_hidden-the_row-Statement-0 body))

if_says : (at : Place) (e : Expression) (body : Vec statements.Statement Global) → the_statement (statements.If at e body None) ≡ tree.If at (the_expression e) (the_statements body.items)
if_says at e body =
    let row = first_row (statements.If at e body None) in
    ap (tree.If at (the_expression e)) (statements_say row.0 row.1 ∙ ap the_statements (statements.items_hidden-the_row-Statement-0 body))

else_says : (at : Place) (e : Expression) (body other : Vec statements.Statement Global) → the_statement (statements.If at e body (Some other)) ≡ tree.IfElse at (the_expression e) (the_statements body.items) (the_statements other.items)
else_says at e body other =
    let row = first_row (statements.If at e body (Some other)) in
    let row' = second_row (statements.If at e body (Some other)) in
    let p = statements_say row.0 row.1 ∙ ap the_statements (statements.items_hidden-the_row-Statement-0 body) in
    let q = statements_say row'.0 row'.1 ∙ ap the_statements (statements.items_hidden-the_row-Statement-0 other) in
    λ i. tree.IfElse at (the_expression e) (p i) (q i)

-- ---- small things

name_tree : tree.Name → Name
name_tree n = record { text = n.text; place = n.place }

name_is : (n : tree.Name) → the_name (name_tree n) ≡ n
unfolding name_tree
name_is n = refl

object_tree : (o : Option tree.Name) → (p : Option Name) × (the_object p ≡ o)
unfolding name_tree
object_tree None = (None, refl)
object_tree (Some n) = (Some (name_tree n), refl)

operator_tree : (o : tree.Operator) → (p : Operator) × (the_operator p ≡ o)
operator_tree tree.Plus = (operator.Plus, refl)
operator_tree tree.Minus = (operator.Minus, refl)
operator_tree tree.Times = (operator.Times, refl)
operator_tree tree.Divide = (operator.Divide, refl)
operator_tree tree.And = (operator.And, refl)
operator_tree tree.Or = (operator.Or, refl)
operator_tree tree.Less = (operator.Less, refl)
operator_tree tree.Greater = (operator.Greater, refl)
operator_tree tree.Equal = (operator.Equal, refl)

sign_tree : (o : tree.Sign) → (p : Sign) × (the_sign p ≡ o)
sign_tree tree.Negate = (sign.Minus, refl)
sign_tree tree.Not = (sign.Not, refl)
sign_tree tree.ShiftLeft = (sign.ShiftLeft, refl)
sign_tree tree.ShiftRight = (sign.ShiftRight, refl)

constant_tree : (c : tree.Constant) → (d : Constant) × (the_constant d ≡ c)
unfolding name_tree
constant_tree (tree.Integer n) = (constant.Integer n, refl)
constant_tree (tree.String t) = (constant.Text (name_tree t), refl)
constant_tree tree.True = (constant.True, refl)
constant_tree tree.False = (constant.False, refl)
constant_tree tree.Null = (constant.Null, refl)
constant_tree (tree.This at) = (constant.This at, refl)

-- ---- expressions

abbrev HasTerm : tree.Term → Type 0
HasTerm t = (u : terms.Term) × (the_term u ≡ t)

abbrev HasExpression : tree.Expression → Type 0
HasExpression e = (d : Expression) × (the_expression d ≡ e)

abbrev HasCall : tree.Call → Type 0
HasCall c = (d : Call) × (the_call d ≡ c)

record HasArguments (es : tree.Expressions) : Type 0 where
  all : List Expression
  are : arguments_list all ≡ es
  few : length all ≤ arguments_length es

record HasOperations (os : tree.Operations) : Type 0 where
  all : List Operation
  are : operations_list all ≡ os
  few : length all ≤ operations_length os

mutual
  unfolding name_tree operations_list arguments_list

  term_tree : (t : tree.Term) → term_length t < 2 ^ 62 → HasTerm t
  term_tree (tree.Value c) small = let d = constant_tree c in (term.Constant d.0, ap tree.Value d.1)
  term_tree (tree.Variable x) small = (term.Variable (name_tree x), refl)
  term_tree (tree.Element x e) small = let d = expression_tree e (omega (arith, small)) in (term.Element (name_tree x) (boxed d.0), ap (tree.Element x) d.1)
  term_tree (tree.Called c) small = let d = call_tree c small in (term.Call (boxed d.0), ap tree.Called d.1)
  term_tree (tree.Group e) small = let d = expression_tree e small in (term.Group (boxed d.0), ap tree.Group d.1)
  term_tree (tree.Unary o t) small =
      let p = sign_tree o in
      let u = term_tree t (omega (arith, small)) in
      (term.Unary p.0 (boxed u.0), λ i. tree.Unary (p.1 i) (u.1 i))

  call_tree : (c : tree.Call) → call_length c < 2 ^ 62 → HasCall c
  call_tree (tree.Calls o f es) small =
      let p = object_tree o in
      let h = arguments_tree es (omega (arith, small)) in
      let parts : OneCall = record { object = p.0; name = name_tree f; arguments = held h.all (let few = h.few in omega (arith, small, few)) } in
      (roll-Call parts, made_call parts ∙ (λ i. tree.Calls (p.1 i) f (h.are i)))

  expression_tree : (e : tree.Expression) → expression_length e < 2 ^ 62 → HasExpression e
  expression_tree (tree.Terms t os) small =
      let u = term_tree t (omega (arith, small)) in
      let h = operations_tree os (omega (arith, small)) in
      let parts : OneExpression = record { first = u.0; rest = held h.all (let few = h.few in omega (arith, small, few)) } in
      (roll-Expression parts, made_expression parts ∙ (λ i. tree.Terms (u.1 i) (h.are i)))

  operations_tree : (os : tree.Operations) → operations_length os < 2 ^ 62 → HasOperations os
  operations_tree tree.NoOperation small = record { all = []; are = refl; few = omega arith }
  operations_tree (tree.Then o at t os) small =
      let p = operator_tree o in
      let u = term_tree t (omega (arith, small)) in
      let h = operations_tree os (omega (arith, small)) in
      record { all = record { operator = p.0; place = at; term = u.0 } ∷ h.all; are = λ i. tree.Then (p.1 i) at (u.1 i) (h.are i); few = let few = h.few in omega (arith, few) }

  arguments_tree : (es : tree.Expressions) → arguments_length es < 2 ^ 62 → HasArguments es
  arguments_tree tree.NoExpression small = record { all = []; are = refl; few = omega arith }
  arguments_tree (tree.More e es) small =
      let d = expression_tree e (omega (arith, small)) in
      let h = arguments_tree es (omega (arith, small)) in
      record { all = d.0 ∷ h.all; are = λ i. tree.More (d.1 i) (h.are i); few = let few = h.few in omega (arith, few) }

-- ---- statements

abbrev HasStatement : tree.Statement → Type 0
HasStatement s = (t : statements.Statement) × (the_statement t ≡ s)

record HasStatements (ss : tree.Statements) : Type 0 where
  all : List statements.Statement
  are : the_statements all ≡ ss
  few : length all ≤ statements_length ss

value_tree : (v : Option tree.Expression) → value_length v < 2 ^ 62 → (w : Option Expression) × (the_value w ≡ v)
value_tree None small = (None, refl)
value_tree (Some e) small = let d = expression_tree e small in (Some d.0, ap (λ (x : tree.Expression). Some x) d.1)

let_tree : (at : Place) (x : tree.Name) (i : Option tree.Expression) (e : tree.Expression) → value_length i + expression_length e < 2 ^ 62 → HasStatement (tree.Let at x i e)
unfolding name_tree
let_tree at x None e small = let d = expression_tree e (omega (arith, small)) in (statements.Let at (name_tree x) None d.0, ap (tree.Let at x None) d.1)
let_tree at x (Some k) e small =
    let d = expression_tree e (omega (arith, small)) in
    let c = expression_tree k (omega (arith, small)) in
    (statements.Let at (name_tree x) (Some (boxed c.0)) d.0, λ i. tree.Let at x (Some (c.1 i)) (d.1 i))

mutual
  statement_tree : (s : tree.Statement) → statement_length s < 2 ^ 62 → HasStatement s
  statement_tree (tree.Let at x i e) small = let_tree at x i e small
  statement_tree (tree.If at e a) small =
      let d = expression_tree e (omega (arith, small)) in
      let h = statements_tree a (omega (arith, small)) in
      let v = held h.all (let few = h.few in omega (arith, small, few)) in
      (statements.If at d.0 v None, if_says at d.0 v ∙ (λ i. tree.If at (d.1 i) (h.are i)))
  statement_tree (tree.IfElse at e a b) small =
      let d = expression_tree e (omega (arith, small)) in
      let h = statements_tree a (omega (arith, small)) in
      let k = statements_tree b (omega (arith, small)) in
      let v = held h.all (let few = h.few in omega (arith, small, few)) in
      let w = held k.all (let few = k.few in omega (arith, small, few)) in
      (statements.If at d.0 v (Some w), else_says at d.0 v w ∙ (λ i. tree.IfElse at (d.1 i) (h.are i) (k.are i)))
  statement_tree (tree.While at e a) small =
      let d = expression_tree e (omega (arith, small)) in
      let h = statements_tree a (omega (arith, small)) in
      let v = held h.all (let few = h.few in omega (arith, small, few)) in
      (statements.While at d.0 v, while_says at d.0 v ∙ (λ i. tree.While at (d.1 i) (h.are i)))
  statement_tree (tree.Do at c) small = let d = call_tree c small in (statements.Do at d.0, ap (tree.Do at) d.1)
  statement_tree (tree.Return at v) small = let w = value_tree v small in (statements.Return at w.0, ap (tree.Return at) w.1)

  statements_tree : (ss : tree.Statements) → statements_length ss < 2 ^ 62 → HasStatements ss
  statements_tree tree.End small = record { all = []; are = refl; few = omega arith }
  statements_tree (tree.Next s ss) small =
      let t = statement_tree s (omega (arith, small)) in
      let h = statements_tree ss (omega (arith, small)) in
      record { all = t.0 ∷ h.all; are = λ i. tree.Next (t.1 i) (h.are i); few = let few = h.few in omega (arith, few) }

-- ---- declarations

-- things of the code that are these, one for each
record HasAll {A B : Type 0} (seen : A → B) (ys : List B) (n : ℕ) : Type 0 where
  all : List A
  are : map seen all ≡ ys
  few : length all ≤ n

each : {A B : Type 0} (seen : A → B) (size : B → ℕ) → ((y : B) → size y < 2 ^ 62 → (x : A) × (seen x ≡ y)) → (ys : List B) → total size ys < 2 ^ 62 → HasAll seen ys (total size ys)
each seen size make [] small = record { all = []; are = refl; few = omega arith }
each seen size make (y ∷ ys) small =
    let x = make y (omega (arith, small)) in
    let h = each seen size make ys (omega (arith, small)) in
    record { all = x.0 ∷ h.all; are = λ i. x.1 i ∷ h.are i; few = let few = h.few in omega (arith, few) }

type_tree : (t : tree.ValueType) → (u : types.Type) × (the_type u ≡ t)
unfolding name_tree
type_tree tree.Int = (type.Int, refl)
type_tree tree.Char = (type.Char, refl)
type_tree tree.Boolean = (type.Boolean, refl)
type_tree (tree.Object n) = (type.Class (name_tree n), refl)

result_tree : (r : Option tree.ValueType) → (q : Option types.Type) × (the_result q ≡ r)
result_tree None = (None, refl)
result_tree (Some t) = let u = type_tree t in (Some u.0, ap (λ (x : tree.ValueType). Some x) u.1)

length_named : (ns : List tree.Name) → length (map name_tree ns) ≡ length ns
length_named [] = refl
length_named (n ∷ ns) = let e = length_named ns in omega (arith, e)

named : (ns : List tree.Name) → map the_name (map name_tree ns) ≡ ns
unfolding name_tree
named [] = refl
named (n ∷ ns) = ap (λ (l : List tree.Name). n ∷ l) (named ns)

names_tree : (ns : tree.Names) → length ns.more < 2 ^ 62 → (ms : Names) × (the_names ms ≡ ns)
unfolding name_tree
names_tree ns small =
    (record { first = name_tree ns.first; more = held (map name_tree ns.more) (omega (arith, small, length_named ns.more)) }, λ i. record { first = ns.first; more = named ns.more i })

scope_tree : (s : tree.Scope) → (t : scopes.Scope) × (the_scope t ≡ s)
scope_tree tree.Static = (scope.Static, refl)
scope_tree tree.Field = (scope.Field, refl)

variables_tree : (v : tree.ClassVariables) → variables_length v < 2 ^ 62 → (w : ClassVariables) × (the_variables w ≡ v)
variables_tree v small =
    let s = scope_tree v.scope in
    let t = type_tree v.type in
    let ns = names_tree v.names small in
    (record { scope = s.0; kind = t.0; names = ns.0 }, λ i. record { scope = s.1 i; type = t.1 i; names = ns.1 i })

locals_tree : (v : tree.Locals) → locals_length v < 2 ^ 62 → (w : Locals) × (the_locals w ≡ v)
locals_tree v small =
    let t = type_tree v.type in
    let ns = names_tree v.names small in
    (record { kind = t.0; names = ns.0 }, λ i. record { type = t.1 i; names = ns.1 i })

record HasParameters (ps : List tree.Parameter) : Type 0 where
  all : List Parameter
  are : map the_parameter all ≡ ps
  few : length all ≤ length ps

parameters_tree : (ps : List tree.Parameter) → HasParameters ps
unfolding name_tree
parameters_tree [] = record { all = []; are = refl; few = omega arith }
parameters_tree (p ∷ ps) =
    let t = type_tree p.type in
    let h = parameters_tree ps in
    record {
      all = record { kind = t.0; name = name_tree p.name } ∷ h.all;
      are = λ i. record { type = t.1 i; name = p.name } ∷ h.are i;
      few = let few = h.few in omega (arith, few);
    }

form_tree : (f : tree.Form) → (g : forms.Form) × (the_form g ≡ f)
form_tree tree.Constructor = (form.Constructor, refl)
form_tree tree.Function = (form.Function, refl)
form_tree tree.Method = (form.Method, refl)

subroutine_tree : (s : tree.Subroutine) → subroutine_length s < 2 ^ 62 → (t : Subroutine) × (the_subroutine t ≡ s)
unfolding name_tree
subroutine_tree s small =
    let f = form_tree s.form in
    let r = result_tree s.result in
    let ps = parameters_tree s.parameters in
    let vs = each the_locals locals_length locals_tree s.locals (omega (arith, small)) in
    let ss = statements_tree s.statements (omega (arith, small)) in
    let few_p = ps.few in
    let few_v = vs.few in
    let few_s = ss.few in (
      record {
        form = f.0;
        result = r.0;
        name = name_tree s.name;
        parameters = held ps.all (omega (arith, small, few_p));
        locals = held vs.all (omega (arith, small, few_v));
        statements = held ss.all (omega (arith, small, few_s));
        close = s.close;
      },
      λ i. record { form = f.1 i; result = r.1 i; name = s.name; parameters = ps.are i; locals = vs.are i; statements = ss.are i; close = s.close },
    )

pub file_tree : (c : tree.ClassFile) → class_length c.class < 2 ^ 62 → (t : Class) × (the_file t ≡ c)
unfolding name_tree
file_tree c small =
    let vs = each the_variables variables_length variables_tree c.class.variables (omega (arith, small)) in
    let ss = each the_subroutine subroutine_length subroutine_tree c.class.subroutines (omega (arith, small)) in
    let few_v = vs.few in
    let few_s = ss.few in (
      record {
        file = c.file;
        name = name_tree c.class.name;
        variables = held vs.all (omega (arith, small, few_v));
        subroutines = held ss.all (omega (arith, small, few_s));
      },
      λ i. record { file = c.file; class = record { name = c.class.name; variables = vs.are i; subroutines = ss.are i } },
    )

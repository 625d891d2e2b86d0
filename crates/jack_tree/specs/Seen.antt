-- The trees of the code as abstract syntax.
use Rattle.std.specs.Prelude.{List, [], ◌∷◌, Option, Some, None, Box, map}
use Rattle.std.specs.Global.{Global}
use Rattle.scan_text.specs.declared.Place.{Place}
use Rattle.jack_tree.specs.declared.tree.Name as names
use Rattle.jack_tree.specs.declared.tree.Operator as operators
use Rattle.jack_tree.specs.declared.tree.Operator.TheVariants as operator
use Rattle.jack_tree.specs.declared.tree.Sign as signs
use Rattle.jack_tree.specs.declared.tree.Sign.TheVariants as sign
use Rattle.jack_tree.specs.declared.tree.Constant as constants
use Rattle.jack_tree.specs.declared.tree.Constant.TheVariants as constant
use Rattle.jack_tree.specs.declared.tree.Call as calls
use Rattle.jack_tree.specs.declared.tree.Term as terms
use Rattle.jack_tree.specs.declared.tree.Expression as expressions
use Rattle.jack_tree.specs.declared.tree.Statement as statements
use Rattle.jack_tree.specs.declared.tree.Type as types
use Rattle.jack_tree.specs.declared.tree.Type.TheVariants as variant
use Rattle.jack_tree.specs.declared.tree.Names as several
use Rattle.jack_tree.specs.declared.tree.Scope as scopes
use Rattle.jack_tree.specs.declared.tree.Scope.TheVariants as scope
use Rattle.jack_tree.specs.declared.tree.Form as forms
use Rattle.jack_tree.specs.declared.tree.Form.TheVariants as form
use Rattle.jack_tree.specs.declared.tree.ClassVariables as variables
use Rattle.jack_tree.specs.declared.tree.Locals as locals
use Rattle.jack_tree.specs.declared.tree.Parameter as parameters
use Rattle.jack_tree.specs.declared.tree.Subroutine as subroutines
use Rattle.jack_tree.specs.declared.tree.Class as classes
use Rattle.jack_tree.specs.Syntax.{Name, Operator, Plus, Minus, Times, Divide, And, Or, Less, Greater, Equal, Sign, Negate, Not, ShiftLeft, ShiftRight, Constant, Integer, String, True, False, Null, This, Expression, Terms, Operations, NoOperation, Then, Term, Value, Variable, Element, Called, Group, Unary, Call, Calls, Expressions, NoExpression, More, Statement, Let, If, IfElse, While, Do, Return, Statements, End, Next, ValueType, Int, Char, Boolean, Object, Names, Scope, Static, Field, ClassVariables, Locals, Parameter, Form, Constructor, Function, Method, Subroutine, Class, ClassFile}

abbrev pub the_name : names.Name → Name
the_name n = record { text = n.text; place = n.place }

abbrev pub the_operator : operators.Operator → Operator
the_operator operator.Plus = Plus
the_operator operator.Minus = Minus
the_operator operator.Times = Times
the_operator operator.Divide = Divide
the_operator operator.And = And
the_operator operator.Or = Or
the_operator operator.Less = Less
the_operator operator.Greater = Greater
the_operator operator.Equal = Equal

abbrev pub the_sign : signs.Sign → Sign
the_sign sign.Minus = Negate
the_sign sign.Not = Not
the_sign sign.ShiftLeft = ShiftLeft
the_sign sign.ShiftRight = ShiftRight

abbrev pub the_constant : constants.Constant → Constant
the_constant (constant.Integer n) = Integer n
the_constant (constant.Text t) = String (the_name t)
the_constant constant.True = True
the_constant constant.False = False
the_constant constant.Null = Null
the_constant (constant.This at) = This at

abbrev pub the_object : Option names.Name → Option Name
the_object None = None
the_object (Some n) = Some (the_name n)

abbrev mutual
  pub the_expression : expressions.Expression → Expression
  the_expression (expressions.Expression' t p os) = Terms (the_term t) (the_operations os)

  pub the_operations : {n : _} → expressions.Row_of-Operation n → Operations
  the_operations expressions.end_of-Operation = NoOperation
  the_operations (expressions.more_of-Operation o at t os) = Then (the_operator o) at (the_term t) (the_operations os)

  pub the_term : terms.Term → Term
  the_term (terms.Constant c) = Value (the_constant c)
  the_term (terms.Variable x) = Variable (the_name x)
  the_term (terms.Element' x p e) = Element (the_name x) (the_expression e)
  the_term (terms.Call' p c) = Called (the_call c)
  the_term (terms.Group' p e) = Group (the_expression e)
  the_term (terms.Unary' s p t) = Unary (the_sign s) (the_term t)

  pub the_call : calls.Call → Call
  the_call (calls.Call' o n p es) = Calls (the_object o) (the_name n) (the_arguments es)

  pub the_arguments : {n : _} → calls.Row_of-Expression n → Expressions
  the_arguments calls.end_of-Expression = NoExpression
  the_arguments (calls.more_of-Expression e es) = More (the_expression e) (the_arguments es)

-- an expression, where there is one
abbrev pub the_value : Option expressions.Expression → Option Expression
the_value None = None
the_value (Some e) = Some (the_expression e)

-- what is in a box, where there is one
abbrev pub unbox : {A : Type 0} → Option (Box A Global) → Option A
unbox None = None
unbox (Some b) = Some b.value

abbrev mutual
  pub the_statement : statements.Statement → Statement
  the_statement (statements.Let at n i e) = Let at (the_name n) (the_value (unbox i)) (the_expression e)
  the_statement (statements.If' at e n body other) = the_choice at (the_expression e) (the_row body) other
  the_statement (statements.While' at e n body) = While at (the_expression e) (the_row body)
  the_statement (statements.Do at c) = Do at (the_call c)
  the_statement (statements.Return at v) = Return at (the_value v)

  pub the_row : {n : _} → statements.Row_of-Statement n → Statements
  the_row statements.end_of-Statement = End
  the_row (statements.more_of-Statement s ss) = Next (the_statement s) (the_row ss)

  -- without an `else`, or with one
  pub the_choice : Place → Expression → Statements → statements.Held-Statement-If-3 → Statement
  the_choice at e body statements.None' = If at e body
  the_choice at e body (statements.Some' n other) = IfElse at e body (the_row other)

abbrev pub the_statements : List statements.Statement → Statements
the_statements [] = End
the_statements (s ∷ ss) = Next (the_statement s) (the_statements ss)

abbrev pub the_type : types.Type → ValueType
the_type variant.Int = Int
the_type variant.Char = Char
the_type variant.Boolean = Boolean
the_type (variant.Class n) = Object (the_name n)

abbrev pub the_result : Option types.Type → Option ValueType
the_result None = None
the_result (Some t) = Some (the_type t)

abbrev pub the_names : several.Names → Names
the_names ns = record { first = the_name ns.first; more = map the_name ns.more.items }

abbrev pub the_scope : scopes.Scope → Scope
the_scope scope.Static = Static
the_scope scope.Field = Field

abbrev pub the_variables : variables.ClassVariables → ClassVariables
the_variables v = record { scope = the_scope v.scope; type = the_type v.kind; names = the_names v.names }

abbrev pub the_locals : locals.Locals → Locals
the_locals v = record { type = the_type v.kind; names = the_names v.names }

abbrev pub the_parameter : parameters.Parameter → Parameter
the_parameter p = record { type = the_type p.kind; name = the_name p.name }

abbrev pub the_form : forms.Form → Form
the_form form.Constructor = Constructor
the_form form.Function = Function
the_form form.Method = Method

abbrev pub the_subroutine : subroutines.Subroutine → Subroutine
the_subroutine s = record {
  form = the_form s.form;
  result = the_result s.result;
  name = the_name s.name;
  parameters = map the_parameter s.parameters.items;
  locals = map the_locals s.locals.items;
  statements = the_statements s.statements.items;
  close = s.close;
}

abbrev pub the_class : classes.Class → Class
the_class c = record {
  name = the_name c.name;
  variables = map the_variables c.variables.items;
  subroutines = map the_subroutine c.subroutines.items;
}

abbrev pub the_file : classes.Class → ClassFile
the_file c = record { file = c.file; class = the_class c }

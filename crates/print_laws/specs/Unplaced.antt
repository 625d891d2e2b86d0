-- A class without its places: what it says, wherever its tokens stand. (Abstract syntax: `Syntax.antt` of jack_tree;
-- book, chapter 10, figure 10.5.)
use Rattle.std.specs.Prelude.{◌≡◌, Option, Some, None, map}
use Rattle.scan_text.specs.Text.{start}
use Rattle.jack_tree.specs.Syntax.{Name, Constant, Integer, String, True, False, Null, This, Expression, Terms, Operations, NoOperation, Then, Term, Value, Variable, Element, Called, Group, Unary, Call, Calls, Expressions, NoExpression, More, Statement, Let, If, IfElse, While, Do, Return, Statements, End, Next, ValueType, Int, Char, Boolean, Object, Names, ClassVariables, Locals, Parameter, Subroutine, Class}

abbrev pub unplaced_name : Name → Name
unplaced_name n = record { text = n.text; place = start }

abbrev pub unplaced_constant : Constant → Constant
unplaced_constant (Integer n) = Integer n
unplaced_constant (String s) = String (unplaced_name s)
unplaced_constant True = True
unplaced_constant False = False
unplaced_constant Null = Null
unplaced_constant (This at) = This start

abbrev pub unplaced_object : Option Name → Option Name
unplaced_object None = None
unplaced_object (Some o) = Some (unplaced_name o)

abbrev mutual
  pub unplaced_expression : Expression → Expression
  unplaced_expression (Terms t os) = Terms (unplaced_term t) (unplaced_operations os)

  pub unplaced_operations : Operations → Operations
  unplaced_operations NoOperation = NoOperation
  unplaced_operations (Then o at t os) = Then o start (unplaced_term t) (unplaced_operations os)

  pub unplaced_term : Term → Term
  unplaced_term (Value c) = Value (unplaced_constant c)
  unplaced_term (Variable x) = Variable (unplaced_name x)
  unplaced_term (Element x e) = Element (unplaced_name x) (unplaced_expression e)
  unplaced_term (Called c) = Called (unplaced_call c)
  unplaced_term (Group e) = Group (unplaced_expression e)
  unplaced_term (Unary s t) = Unary s (unplaced_term t)

  pub unplaced_call : Call → Call
  unplaced_call (Calls o f es) = Calls (unplaced_object o) (unplaced_name f) (unplaced_expressions es)

  pub unplaced_expressions : Expressions → Expressions
  unplaced_expressions NoExpression = NoExpression
  unplaced_expressions (More e es) = More (unplaced_expression e) (unplaced_expressions es)

-- an expression, where there is one
abbrev pub unplaced_value : Option Expression → Option Expression
unplaced_value None = None
unplaced_value (Some e) = Some (unplaced_expression e)

abbrev mutual
  pub unplaced_statement : Statement → Statement
  unplaced_statement (Let at x i e) = Let start (unplaced_name x) (unplaced_value i) (unplaced_expression e)
  unplaced_statement (If at e body) = If start (unplaced_expression e) (unplaced_statements body)
  unplaced_statement (IfElse at e body other) = IfElse start (unplaced_expression e) (unplaced_statements body) (unplaced_statements other)
  unplaced_statement (While at e body) = While start (unplaced_expression e) (unplaced_statements body)
  unplaced_statement (Do at c) = Do start (unplaced_call c)
  unplaced_statement (Return at v) = Return start (unplaced_value v)

  pub unplaced_statements : Statements → Statements
  unplaced_statements End = End
  unplaced_statements (Next s ss) = Next (unplaced_statement s) (unplaced_statements ss)

abbrev pub unplaced_type : ValueType → ValueType
unplaced_type Int = Int
unplaced_type Char = Char
unplaced_type Boolean = Boolean
unplaced_type (Object n) = Object (unplaced_name n)

abbrev pub unplaced_result : Option ValueType → Option ValueType
unplaced_result None = None
unplaced_result (Some t) = Some (unplaced_type t)

abbrev pub unplaced_names : Names → Names
unplaced_names ns = record { first = unplaced_name ns.first; more = map unplaced_name ns.more }

abbrev pub unplaced_variables : ClassVariables → ClassVariables
unplaced_variables v = record { scope = v.scope; type = unplaced_type v.type; names = unplaced_names v.names }

abbrev pub unplaced_locals : Locals → Locals
unplaced_locals v = record { type = unplaced_type v.type; names = unplaced_names v.names }

abbrev pub unplaced_parameter : Parameter → Parameter
unplaced_parameter p = record { type = unplaced_type p.type; name = unplaced_name p.name }

abbrev pub unplaced_subroutine : Subroutine → Subroutine
unplaced_subroutine s = record {
  form = s.form;
  result = unplaced_result s.result;
  name = unplaced_name s.name;
  parameters = map unplaced_parameter s.parameters;
  locals = map unplaced_locals s.locals;
  statements = unplaced_statements s.statements;
  close = start;
}

abbrev pub unplaced_class : Class → Class
unplaced_class c = record { name = unplaced_name c.name; variables = map unplaced_variables c.variables; subroutines = map unplaced_subroutine c.subroutines }

-- Two classes are equal but for places.
pub record IsEqualButForPlaces (c d : Class) : Type 0 where
  pub same : unplaced_class c ≡ unplaced_class d

-- Abstract syntax without a text: its names and keywords have no place (book, chapter 10, figure 10.5).
use Rattle.std.specs.Prelude.{ℕ, List, [], ◌∷◌, Option, Some, None, codes}
use Rattle.scan_text.specs.Text.{nowhere}
use Rattle.jack_tree.specs.Syntax.{Name, Operator, Integer, Expression, Terms, NoOperation, Then, Term, Value, Variable, Element, Calls, NoExpression, More, Statement, Let, If, IfElse, While, Do, Return, Statements, End, Next, ValueType, Object, Locals, Parameter, Function, Subroutine}

abbrev pub name_of : List ℕ → Name
name_of text = record { text = text; place = nowhere }

-- statements one after another
abbrev pub row : List Statement → Statements
row [] = End
row (s ∷ ss) = Next s (row ss)

-- Terms.

abbrev pub number : ℕ → Term
number n = Value (Integer n)

abbrev pub variable : List ℕ → Term
variable x = Variable (name_of x)

-- `x[index]`
abbrev pub element : List ℕ → Expression → Term
element x index = Element (name_of x) index

-- Expressions: a term alone, and two or three terms with operators between them, from left to right.

abbrev pub alone : Term → Expression
alone t = Terms t NoOperation

abbrev pub pair_of : Term → Operator → Term → Expression
pair_of a o b = Terms a (Then o nowhere b NoOperation)

abbrev pub three_of : Term → Operator → Term → Operator → Term → Expression
three_of a o b n c = Terms a (Then o nowhere b (Then n nowhere c NoOperation))

-- Statements.

abbrev pub let_variable : List ℕ → Expression → Statement
let_variable x value = Let nowhere (name_of x) None value

-- `let x[index] = value;`
abbrev pub let_element : List ℕ → Expression → Expression → Statement
let_element x index value = Let nowhere (name_of x) (Some index) value

abbrev pub if_then : Expression → List Statement → Statement
if_then condition body = If nowhere condition (row body)

abbrev pub if_else : Expression → List Statement → List Statement → Statement
if_else condition body other = IfElse nowhere condition (row body) (row other)

abbrev pub while_loop : Expression → List Statement → Statement
while_loop condition body = While nowhere condition (row body)

-- `do class.name(argument);`
abbrev pub do_call : List ℕ → List ℕ → Expression → Statement
do_call class name argument = Do nowhere (Calls (Some (name_of class)) (name_of name) (More argument NoExpression))

abbrev pub return_value : Expression → Statement
return_value e = Return nowhere (Some e)

abbrev pub return_nothing : Statement
return_nothing = Return nowhere None

-- Declarations.

abbrev pub array_type : ValueType
array_type = Object (name_of (codes "Array"))

-- `var kind first, ..;`
abbrev pub locals_of : ValueType → List ℕ → List Name → Locals
locals_of kind first others = record { type = kind; names = record { first = name_of first; more = others } }

abbrev pub parameter : ValueType → List ℕ → Parameter
parameter kind x = record { type = kind; name = name_of x }

-- `function result name(parameters) { locals statements }`
abbrev pub function_of : Option ValueType → List ℕ → List Parameter → List Locals → List Statement → Subroutine
function_of result name parameters locals statements = record {
  form = Function;
  result = result;
  name = name_of name;
  parameters = parameters;
  locals = locals;
  statements = row statements;
  close = nowhere;
}

-- Abstract syntax as trees of the grammar.
use Rattle.std.proofs.Common.{ℕ, List, [], ◌∷◌, Option, Some, None}
use Rattle.scan_text.specs.declared.Place.{Place}
use Rattle.grammar.specs.Rules.{Tree, Leaf, Node, Pair, Skip, Left, Right, Absent, Present, NoMore, tree_of_list}
use Rattle.grammar.specs.Rules as rules
use Rattle.jack_tree.specs.declared.token.Keyword.{Keyword}
use Rattle.jack_tree.specs.declared.token.Keyword.TheVariants as keyword
use Rattle.jack_tree.specs.declared.token.Kind.TheVariants as kind
use Rattle.jack_tree.specs.Syntax.{Name, Operator, Plus, Minus, Times, Divide, And, Or, Less, Greater, Equal, Sign, Negate, Not, ShiftLeft, ShiftRight, Constant, Integer, String, True, False, Null, This, Expression, Terms, Operations, NoOperation, Then, Term, Value, Variable, Element, Called, Group, Unary, Call, Calls, Expressions, NoExpression, More, Statement, Let, If, IfElse, While, Do, Return, Statements, End, Next, ValueType, Int, Char, Boolean, Object, Names, Scope, Static, Field, ClassVariables, Locals, Parameter, Form, Constructor, Function, Method, Subroutine, Class}
use Rattle.jack_parser.specs.Grammar.{Said, Fixed, Placed}
use Rattle.jack_parser.specs.ClassTrees.{close_leaf}

abbrev pub name_said : Name → Said
name_said n = Placed kind.Identifier n.text n.place

abbrev pub operator_byte : Operator → ℕ
operator_byte Plus = 43
operator_byte Minus = 45
operator_byte Times = 42
operator_byte Divide = 47
operator_byte And = 38
operator_byte Or = 124
operator_byte Less = 60
operator_byte Greater = 62
operator_byte Equal = 61

abbrev pub operator_said : Operator → Place → Said
operator_said o at = Placed (kind.Symbol (operator_byte o)) [] at

abbrev pub sign_byte : Sign → ℕ
sign_byte Negate = 45
sign_byte Not = 126
sign_byte ShiftLeft = 94
sign_byte ShiftRight = 35

abbrev pub sign_said : Sign → Said
sign_said s = Fixed (kind.Symbol (sign_byte s))

abbrev pub constant_said : Constant → Said
constant_said (Integer n) = Fixed (kind.Integer n)
constant_said (String t) = Placed kind.Text t.text t.place
constant_said True = Fixed (kind.Keyword keyword.True)
constant_said False = Fixed (kind.Keyword keyword.False)
constant_said Null = Fixed (kind.Keyword keyword.Null)
constant_said (This at) = Placed (kind.Keyword keyword.This) [] at

-- a part between two symbols
abbrev pub enclosed : Tree Said → Tree Said
enclosed x = Pair Skip (Pair x Skip)

-- the front name of a call
abbrev pub front_said : Call → Said
front_said (Calls None f es) = name_said f
front_said (Calls (Some o) f es) = name_said o

abbrev mutual
  pub expression_tree : Expression → Tree Said
  expression_tree (Terms t os) = Node (Pair (term_tree t) (operations_tree os))

  pub operations_tree : Operations → Tree Said
  operations_tree NoOperation = NoMore
  operations_tree (Then o at t os) = rules.More (Pair (Leaf (operator_said o at)) (term_tree t)) (operations_tree os)

  pub term_tree : Term → Tree Said
  term_tree (Value c) = Node (Left (Leaf (constant_said c)))
  term_tree (Variable x) = Node (Right (Left (Pair (Leaf (name_said x)) Absent)))
  term_tree (Element x e) = Node (Right (Left (Pair (Leaf (name_said x)) (Present (Left (enclosed (Node (expression_tree e))))))))
  term_tree (Called c) = Node (Right (Left (Pair (Leaf (front_said c)) (Present (Right (invoked_tree c))))))
  term_tree (Group e) = Node (Right (Right (Left (enclosed (Node (expression_tree e))))))
  term_tree (Unary s t) = Node (Right (Right (Right (Pair (Leaf (sign_said s)) (Node (term_tree t))))))

  -- what follows the front name of a call
  pub invoked_tree : Call → Tree Said
  invoked_tree (Calls None f es) = Left (enclosed (arguments_tree es))
  invoked_tree (Calls (Some o) f es) = Right (Pair Skip (Pair (Leaf (name_said f)) (enclosed (arguments_tree es))))

  pub arguments_tree : Expressions → Tree Said
  arguments_tree NoExpression = Absent
  arguments_tree (More e es) = Present (Node (Pair (Node (expression_tree e)) (further_tree es)))

  pub further_tree : Expressions → Tree Said
  further_tree NoExpression = NoMore
  further_tree (More e es) = rules.More (Pair Skip (Node (expression_tree e))) (further_tree es)

abbrev pub key_leaf : Keyword → Place → Tree Said
key_leaf k at = Leaf (Placed (kind.Keyword k) [] at)

abbrev pub index_tree : Option Expression → Tree Said
index_tree None = Absent
index_tree (Some e) = Present (enclosed (Node (expression_tree e)))

abbrev pub value_tree : Option Expression → Tree Said
value_tree None = Absent
value_tree (Some e) = Present (expression_tree e)

abbrev mutual
  pub statement_tree : Statement → Tree Said
  statement_tree (Let at x i e) = Left (Pair (key_leaf keyword.Let at) (Pair (Leaf (name_said x)) (Pair (index_tree i) (enclosed (expression_tree e)))))
  statement_tree (If at e body) = Right (Left (Pair (key_leaf keyword.If at) (Pair (enclosed (Node (expression_tree e))) (Pair (enclosed (statements_tree body)) Absent))))
  statement_tree (IfElse at e body other) = Right (Left (Pair (key_leaf keyword.If at) (Pair (enclosed (Node (expression_tree e))) (Pair (enclosed (statements_tree body)) (Present (Pair Skip (enclosed (statements_tree other))))))))
  statement_tree (While at e body) = Right (Right (Left (Pair (key_leaf keyword.While at) (Pair (enclosed (Node (expression_tree e))) (enclosed (statements_tree body))))))
  statement_tree (Do at c) = Right (Right (Right (Left (Pair (key_leaf keyword.Do at) (Pair (Leaf (front_said c)) (Pair (invoked_tree c) Skip))))))
  statement_tree (Return at v) = Right (Right (Right (Right (Pair (key_leaf keyword.Return at) (Pair (value_tree v) Skip)))))

  pub statements_tree : Statements → Tree Said
  statements_tree End = NoMore
  statements_tree (Next s ss) = rules.More (Node (Node (statement_tree s))) (statements_tree ss)

abbrev pub type_said : ValueType → Said
type_said Int = Fixed (kind.Keyword keyword.Int)
type_said Char = Fixed (kind.Keyword keyword.Char)
type_said Boolean = Fixed (kind.Keyword keyword.Boolean)
type_said (Object n) = name_said n

abbrev pub result_said : Option ValueType → Said
result_said None = Fixed (kind.Keyword keyword.Void)
result_said (Some t) = type_said t

abbrev pub form_said : Form → Said
form_said Constructor = Fixed (kind.Keyword keyword.Constructor)
form_said Function = Fixed (kind.Keyword keyword.Function)
form_said Method = Fixed (kind.Keyword keyword.Method)

abbrev pub next_name_tree : Name → Tree Said
next_name_tree n = Pair Skip (Leaf (name_said n))

abbrev pub names_tree : Names → Tree Said
names_tree ns = Pair (Leaf (name_said ns.first)) (tree_of_list next_name_tree ns.more NoMore)

abbrev pub declared_tree : ValueType → Names → Tree Said
declared_tree t ns = Pair Skip (Pair (Leaf (type_said t)) (Pair (names_tree ns) Skip))

abbrev pub scoped : Scope → Tree Said → Tree Said
scoped Static x = Left x
scoped Field x = Right x

abbrev pub variables_tree : ClassVariables → Tree Said
variables_tree v = scoped v.scope (declared_tree v.type v.names)

abbrev pub locals_tree : Locals → Tree Said
locals_tree v = declared_tree v.type v.names

abbrev pub parameter_tree : Parameter → Tree Said
parameter_tree p = Pair (Leaf (type_said p.type)) (Leaf (name_said p.name))

abbrev pub next_parameter_tree : Parameter → Tree Said
next_parameter_tree p = Pair Skip (parameter_tree p)

abbrev pub parameters_tree : List Parameter → Tree Said
parameters_tree [] = Absent
parameters_tree (p ∷ ps) = Present (Pair (parameter_tree p) (tree_of_list next_parameter_tree ps NoMore))

abbrev pub parts_tree : Subroutine → Tree Said
parts_tree s =
    Pair (Leaf (form_said s.form)) (Pair (Leaf (result_said s.result)) (Pair (Leaf (name_said s.name)) (Pair Skip (Pair (parameters_tree s.parameters) (Pair Skip (Pair Skip
    (Pair (tree_of_list locals_tree s.locals NoMore) (Pair (statements_tree s.statements) (close_leaf s.close)))))))))

abbrev pub subroutine_tree : Subroutine → Tree Said
subroutine_tree s = Node (parts_tree s)

abbrev pub class_tree : Class → Tree Said
class_tree c = Pair Skip (Pair (Leaf (name_said c.name)) (Pair Skip (Pair (tree_of_list variables_tree c.variables NoMore) (Pair (tree_of_list subroutine_tree c.subroutines NoMore) Skip))))

-- a class, and nothing after it
abbrev pub whole_tree : Class → Tree Said
whole_tree c = Pair (class_tree c) Skip

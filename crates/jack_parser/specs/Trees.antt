-- The trees of Jack as trees of its grammar.
use Rattle.std.specs.Prelude.{ℕ, List, [], ◌∷◌, Option, Some, None, Result, Ok, Err, if◌then◌else◌, nat_lt, min, length}
use Rattle.grammar.specs.declared.Fault.TheVariants.{Range}
use Rattle.grammar.specs.declared.ReadError.{ReadError}
use Rattle.grammar.specs.Reading.{Gives}
use Rattle.scan_text.specs.declared.Place.{Place}
use Rattle.grammar.specs.Rules.{Tree, Leaf, Node, Pair, Skip, Left, Right, Absent, Present, NoMore, More, tree_of_list}
use Rattle.jack_tree.specs.declared.token.Keyword.TheVariants as keyword
use Rattle.jack_tree.specs.declared.token.Kind.TheVariants as kind
use Rattle.jack_tree.specs.declared.tree.Name.{Name}
use Rattle.jack_tree.specs.declared.tree.Operator.{Operator}
use Rattle.jack_tree.specs.declared.tree.Operator.TheVariants as operator
use Rattle.jack_tree.specs.declared.tree.Sign.{Sign}
use Rattle.jack_tree.specs.declared.tree.Sign.TheVariants as sign
use Rattle.jack_tree.specs.declared.tree.Constant.{Constant}
use Rattle.jack_tree.specs.declared.tree.Constant.TheVariants as constant
use Rattle.jack_tree.specs.declared.tree.Call.{Call, Call', Row_of-Expression, end_of-Expression, more_of-Expression}
use Rattle.jack_tree.specs.declared.tree.Term as terms
use Rattle.jack_tree.specs.declared.tree.Operation.{Operation}
use Rattle.jack_tree.specs.declared.tree.Expression.{Expression, Expression', Row_of-Operation, end_of-Operation, more_of-Operation}
use Rattle.jack_parser.specs.Grammar.{Said, Fixed, Placed, without_quotes}

abbrev pub name_said : Name → Said
name_said n = Placed kind.Identifier n.text n.place

abbrev pub name_leaf : Name → Tree Said
name_leaf n = Leaf (name_said n)

abbrev pub operator_byte : Operator → ℕ
operator_byte operator.Plus = 43
operator_byte operator.Minus = 45
operator_byte operator.Times = 42
operator_byte operator.Divide = 47
operator_byte operator.And = 38
operator_byte operator.Or = 124
operator_byte operator.Less = 60
operator_byte operator.Greater = 62
operator_byte operator.Equal = 61

abbrev pub operator_said : Operator → Place → Said
operator_said o at = Placed (kind.Symbol (operator_byte o)) [] at

abbrev pub sign_byte : Sign → ℕ
sign_byte sign.Minus = 45
sign_byte sign.Not = 126
sign_byte sign.ShiftLeft = 94
sign_byte sign.ShiftRight = 35

abbrev pub sign_said : Sign → Said
sign_said s = Fixed (kind.Symbol (sign_byte s))

abbrev pub constant_leaf_said : Constant → Said
constant_leaf_said (constant.Integer n) = Fixed (kind.Integer n)
constant_leaf_said (constant.Text t) = Placed kind.Text t.text t.place
constant_leaf_said constant.True = Fixed (kind.Keyword keyword.True)
constant_leaf_said constant.False = Fixed (kind.Keyword keyword.False)
constant_leaf_said constant.Null = Fixed (kind.Keyword keyword.Null)
constant_leaf_said (constant.This at) = Placed (kind.Keyword keyword.This) [] at

abbrev pub constant_leaf : Constant → Tree Said
constant_leaf c = Leaf (constant_leaf_said c)

-- a call's front name, and what follows it
abbrev pub front_said : Option Name → Name → Said
front_said None n = name_said n
front_said (Some o) n = name_said o

abbrev pub call_said : Call → Said
call_said (Call' o n p es) = front_said o n

abbrev pub call_tree : Tree Said → Tree Said
call_tree args = Pair Skip (Pair args Skip)

abbrev pub invoked_by : Option Name → Name → Tree Said → Tree Said
invoked_by None n args = Left (call_tree args)
invoked_by (Some o) n args = Right (Pair Skip (Pair (name_leaf n) (call_tree args)))

abbrev mutual
  pub term_tree : terms.Term → Tree Said
  term_tree (terms.Constant c) = Node (Left (constant_leaf c))
  term_tree (terms.Variable x) = Node (Right (Left (Pair (name_leaf x) Absent)))
  term_tree (terms.Element' x p e) = Node (Right (Left (Pair (name_leaf x) (Present (Left (Pair Skip (Pair (Node (exp_tree e)) Skip)))))))
  term_tree (terms.Call' p c) = Node (Right (Left (Pair (Leaf (call_said c)) (Present (Right (invoked_tree c))))))
  term_tree (terms.Group' p e) = Node (Right (Right (Left (Pair Skip (Pair (Node (exp_tree e)) Skip)))))
  term_tree (terms.Unary' s p t) = Node (Right (Right (Right (Pair (Leaf (sign_said s)) (Node (term_tree t))))))

  -- what follows the front name of a call
  pub invoked_tree : Call → Tree Said
  invoked_tree (Call' o n p es) = invoked_by o n (args_of es)

  pub exp_tree : Expression → Tree Said
  exp_tree (Expression' t p os) = Node (Pair (term_tree t) (rest_of os))

  pub rest_of : {n : _} → Row_of-Operation n → Tree Said
  rest_of end_of-Operation = NoMore
  rest_of (more_of-Operation o at t os) = More (Pair (Leaf (operator_said o at)) (term_tree t)) (rest_of os)

  pub args_of : {n : _} → Row_of-Expression n → Tree Said
  args_of end_of-Expression = Absent
  args_of (more_of-Expression e es) = Present (Node (Pair (Node (exp_tree e)) (more_of es)))

  pub more_of : {n : _} → Row_of-Expression n → Tree Said
  more_of end_of-Expression = NoMore
  more_of (more_of-Expression e es) = More (Pair Skip (Node (exp_tree e))) (more_of es)

-- operators with the terms that follow them
abbrev pub operation_tree : Operation → Tree Said
operation_tree o = Pair (Leaf (operator_said o.operator o.place)) (term_tree o.term)

abbrev pub operations_tree : List Operation → Tree Said
operations_tree os = tree_of_list operation_tree os NoMore

-- the arguments of a call, as a list
abbrev pub argument_tree : Expression → Tree Said
argument_tree e = Node (exp_tree e)

abbrev pub next_tree : Expression → Tree Said
next_tree e = Pair Skip (argument_tree e)

-- one argument or more, with more after them
abbrev pub list_with : List Expression → Tree Said → Tree Said
list_with [] more = more
list_with (e ∷ es) more = Pair (argument_tree e) (tree_of_list next_tree es more)

abbrev pub args_tree : List Expression → Tree Said
args_tree [] = Absent
args_tree (e ∷ es) = Present (Node (list_with (e ∷ es) NoMore))

abbrev pub called_tree : List Expression → Tree Said
called_tree es = call_tree (args_tree es)

-- '(' exp ')'
abbrev pub group_tree : Expression → Tree Said
group_tree e = Pair Skip (Pair (Node (exp_tree e)) Skip)

-- a string was made of a token's text, unless it is past the limit
abbrev pub IsString : List ℕ → Place → Result Constant ReadError → Type 0
IsString text at result = Gives constant_leaf_said result (if nat_lt 16384 (length (without_quotes text)) then Err (Range at (min (length (without_quotes text)) 1000000000)) else Ok (Placed kind.Text (without_quotes text) at))

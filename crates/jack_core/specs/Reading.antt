-- What the expressions of the code stand for: those of the meaning.
use Rattle.std.specs.Prelude.{ℕ, List, [], ◌∷◌, get_or, take, drop, reverse}
use Rattle.jack_meaning.specs.Text.{Argument, Local, Static, Minus, Complement, ShiftLeft, ShiftRight, Plus, Subtract, And, Or, Less, Greater, Equal, Literal, Value, Name, This, Field, Unary, Binary, Load, Call, NoMore, More}
use Rattle.jack_meaning.specs.Text.{Variable as AVariable, Sign as ASign, Operator as AnOperator, Expression as AnExpression, Expressions}
use Rattle.jack_core.specs.declared.tree.Variable.{Variable}
use Rattle.jack_core.specs.declared.tree.Sign.{Sign}
use Rattle.jack_core.specs.declared.tree.Operator.{Operator}
use Rattle.jack_core.specs.declared.tree.Part.{Part}
use Rattle.jack_core.specs.declared.tree.Part.TheVariants as part
use Rattle.jack_core.specs.declared.tree.Expression.{Expression}
use Rattle.jack_core.specs.Heights.{takes}

abbrev pub the_variable : Variable → AVariable
the_variable (Variable.Argument k) = Argument k
the_variable (Variable.Local k) = Local k
the_variable (Variable.Static k) = Static k

abbrev pub the_sign : Sign → ASign
the_sign Sign.Minus = Minus
the_sign Sign.Complement = Complement
the_sign Sign.ShiftLeft = ShiftLeft
the_sign Sign.ShiftRight = ShiftRight

abbrev pub the_operator : Operator → AnOperator
the_operator Operator.Plus = Plus
the_operator Operator.Subtract = Subtract
the_operator Operator.And = And
the_operator Operator.Or = Or
the_operator Operator.Less = Less
the_operator Operator.Greater = Greater
the_operator Operator.Equal = Equal

-- expressions as the arguments of a call
abbrev pub arguments_of : List AnExpression → Expressions
arguments_of [] = NoMore
arguments_of (e ∷ es) = More e (arguments_of es)

-- the first, the second and further ones; where there are too few, any will do
abbrev pub operand : ℕ → List AnExpression → AnExpression
operand k es = get_or es k (Value 0)

-- the expression that a part makes of its operands, the first one first
abbrev pub make_expression : Part → List AnExpression → AnExpression
make_expression (part.Literal n) es = Literal n
make_expression (part.Argument k) es = Name (Argument k)
make_expression (part.Local k) es = Name (Local k)
make_expression (part.Static k) es = Name (Static k)
make_expression part.This es = This
make_expression (part.Field k) es = Field k
make_expression (part.Unary o) es = Unary (the_sign o) (operand 0 es)
make_expression (part.Binary o) es = Binary (the_operator o) (operand 0 es) (operand 1 es)
make_expression part.Load es = Load (operand 0 es) (operand 1 es)
make_expression (part.Call n g) es = Call g (arguments_of es)

-- a part on expressions, the last of which comes first: that of its operands is in their place
abbrev pub put : Part → List AnExpression → List AnExpression
put p es = make_expression p (reverse (take (takes p) es)) ∷ drop (takes p) es

-- the same for parts in order
abbrev pub build_expressions : List AnExpression → List Part → List AnExpression
build_expressions es [] = es
build_expressions es (p ∷ ps) = build_expressions (put p es) ps

-- the expression that parts in postfix order spell
abbrev pub the_expression : Expression → AnExpression
the_expression e = operand 0 (build_expressions [] e.parts)

-- The program that trees mean (book, chapters 9 to 12). Names become numbers, true is -1, false and null are 0, and the operators * and / are
-- calls of Math. A string is made by String.new and filled by appendChar, and a method call has its object as first argument. Each statement
-- gets its number in the order of the text, and a body whose last statement is no `return` gets one. A constructor first takes the memory of
-- its object.
use Rattle.std.specs.Prelude.{ℕ, ◌+◌, Bool, true, false, List, [], ◌∷◌, map, Option, Some, None, codes, Vec}
use Rattle.std.specs.Global.{Global}
use Rattle.jack_tree.specs.Seen.{unbox}
use Rattle.jack_meaning.specs.Text as meaning
use Rattle.jack_tree.specs.declared.tree.Name.{Name}
use Rattle.jack_tree.specs.declared.tree.Operator.{Operator}
use Rattle.jack_tree.specs.declared.tree.Operator.TheVariants as operator
use Rattle.jack_tree.specs.declared.tree.Sign.{Sign}
use Rattle.jack_tree.specs.declared.tree.Sign.TheVariants as sign
use Rattle.jack_tree.specs.declared.tree.Constant.{Constant}
use Rattle.jack_tree.specs.declared.tree.Constant.TheVariants as constant
use Rattle.jack_tree.specs.declared.tree.Call.{Call, Call', Row_of-Expression, end_of-Expression, more_of-Expression}
use Rattle.jack_tree.specs.declared.tree.Term as terms
use Rattle.jack_tree.specs.declared.tree.Operation.{Operation}
use Rattle.jack_tree.specs.declared.tree.Expression.{Expression, Expression', Row_of-Operation, end_of-Operation, more_of-Operation}
use Rattle.jack_tree.specs.declared.tree.Statement as statements
use Rattle.jack_names.specs.Made.{declared_meant, with_variable, one, two, filled_characters, length_word, let_by}
use Rattle.jack_names.specs.Sizes.{size, row_size}
use Rattle.jack_names.specs.Inner.Scopes.{Scope, callee}
use Rattle.jack_names.specs.declared.scope.Signature.{Signature}
use Rattle.jack_names.specs.declared.scope.Callee.{Callee}

abbrev pub variable_meant : Scope → Name → meaning.Expression
variable_meant s x = declared_meant (s.variable x.text)

-- the number of a subroutine
abbrev pub number_by : Option Signature → ℕ
number_by None = 0
number_by (Some g) = g.number

abbrev pub called_number : Scope → List ℕ → Option Callee → ℕ
called_number s f None = 0
called_number s f (Some c) = number_by (s.subroutine c.class f)

-- the number of a subroutine that a call made by itself names
abbrev pub made_by : Scope → List ℕ → Option ℕ → ℕ
made_by s f None = 0
made_by s f (Some k) = number_by (s.subroutine k f)

abbrev pub made_number : Scope → List ℕ → List ℕ → ℕ
made_number s c f = made_by s f (s.class c)

abbrev pub with_object : Scope → Option Name → meaning.Expressions → meaning.Expressions
with_object s None es = meaning.More meaning.This es
with_object s (Some x) es = with_variable (s.variable x.text) es

abbrev pub invocation : Scope → Option Name → Name → meaning.Expressions → meaning.Expression
invocation s o f es = meaning.Call (called_number s f.text (callee s o)) (with_object s o es)

abbrev pub string_meant : Scope → List ℕ → meaning.Expression
string_meant s text =
    filled_characters (made_number s (codes "String") (codes "appendChar")) (meaning.Call (made_number s (codes "String") (codes "new")) (one (meaning.Literal (length_word text)))) text

abbrev pub constant_meant : Scope → Constant → meaning.Expression
constant_meant s (constant.Integer n) = meaning.Literal n
constant_meant s (constant.Text t) = string_meant s t.text
constant_meant s constant.True = meaning.Literal 65535
constant_meant s constant.False = meaning.Literal 0
constant_meant s constant.Null = meaning.Literal 0
constant_meant s (constant.This at) = meaning.This

abbrev pub sign_meant : Sign → meaning.Sign
sign_meant sign.Minus = meaning.Minus
sign_meant sign.Not = meaning.Complement
sign_meant sign.ShiftLeft = meaning.ShiftLeft
sign_meant sign.ShiftRight = meaning.ShiftRight

abbrev pub binary_meant : Scope → Operator → meaning.Expression → meaning.Expression → meaning.Expression
binary_meant s operator.Plus a b = meaning.Binary meaning.Plus a b
binary_meant s operator.Minus a b = meaning.Binary meaning.Subtract a b
binary_meant s operator.Times a b = meaning.Call (made_number s (codes "Math") (codes "multiply")) (two a b)
binary_meant s operator.Divide a b = meaning.Call (made_number s (codes "Math") (codes "divide")) (two a b)
binary_meant s operator.And a b = meaning.Binary meaning.And a b
binary_meant s operator.Or a b = meaning.Binary meaning.Or a b
binary_meant s operator.Less a b = meaning.Binary meaning.Less a b
binary_meant s operator.Greater a b = meaning.Binary meaning.Greater a b
binary_meant s operator.Equal a b = meaning.Binary meaning.Equal a b

abbrev mutual
  pub term_meant : Scope → terms.Term → meaning.Expression
  term_meant s (terms.Constant c) = constant_meant s c
  term_meant s (terms.Variable x) = variable_meant s x
  term_meant s (terms.Element' x p e) = meaning.Load (variable_meant s x) (exp_meant s e)
  term_meant s (terms.Call' p c) = call_meant s c
  term_meant s (terms.Group' p e) = exp_meant s e
  term_meant s (terms.Unary' o p t) = meaning.Unary (sign_meant o) (term_meant s t)

  pub call_meant : Scope → Call → meaning.Expression
  call_meant s (Call' o f n es) = invocation s o f (row_meant s es)

  pub exp_meant : Scope → Expression → meaning.Expression
  exp_meant s (Expression' t n os) = rest_meant s (term_meant s t) os

  -- operators bind from left to right
  pub rest_meant : Scope → meaning.Expression → {n : _} → Row_of-Operation n → meaning.Expression
  rest_meant s e end_of-Operation = e
  rest_meant s e (more_of-Operation o at t os) = rest_meant s (binary_meant s o e (term_meant s t)) os

  -- arguments that stand in a call
  pub row_meant : Scope → {n : _} → Row_of-Expression n → meaning.Expressions
  row_meant s end_of-Expression = meaning.NoMore
  row_meant s (more_of-Expression e es) = meaning.More (exp_meant s e) (row_meant s es)

-- an expression with a further operator and term, and with more of them
abbrev pub operation_meant : Scope → meaning.Expression → Operation → meaning.Expression
operation_meant s e o = binary_meant s o.operator e (term_meant s o.term)

abbrev pub grouped_operations : Scope → meaning.Expression → List Operation → meaning.Expression
grouped_operations s e [] = e
grouped_operations s e (o ∷ os) = grouped_operations s (operation_meant s e o) os

-- arguments in order, before others
abbrev pub expression_list : List meaning.Expression → meaning.Expressions → meaning.Expressions
expression_list [] more = more
expression_list (e ∷ es) more = meaning.More e (expression_list es more)

abbrev pub arguments_meant : Scope → List Expression → meaning.Expressions
arguments_meant s es = expression_list (map (exp_meant s) es) meaning.NoMore

abbrev pub let_meant : Scope → ℕ → Name → Option Expression → Expression → meaning.Statement
let_meant s n x None e = let_by (s.variable x.text) n (exp_meant s e)
let_meant s n x (Some i) e = meaning.Store n (variable_meant s x) (exp_meant s i) (exp_meant s e)

-- `return;` is `return 0;`
abbrev pub value_meant : Scope → Option Expression → meaning.Expression
value_meant s None = meaning.Literal 0
value_meant s (Some e) = exp_meant s e

-- whether the text has an `else`, be it one without statements
abbrev pub is_else : statements.Held-Statement-If-3 → Bool
is_else statements.None' = false
is_else (statements.Some' m a) = true

-- a statement whose number is n; those in it follow
abbrev mutual
  pub statement_meant : Scope → ℕ → statements.Statement → meaning.Statement
  statement_meant s n (statements.Let at x i e) = let_meant s n x (unbox i) e
  statement_meant s n (statements.If' at e m a b) = meaning.If n (is_else b) (exp_meant s e) (block_meant s (n + 1) a) (other_meant s (n + 1 + row_size a) b)
  statement_meant s n (statements.While' at e m a) = meaning.While n (exp_meant s e) (block_meant s (n + 1) a)
  statement_meant s n (statements.Do at c) = meaning.Do n (call_meant s c)
  statement_meant s n (statements.Return at v) = meaning.Return n (value_meant s v)

  -- statements that stand in a statement, the first of which has this number
  pub block_meant : Scope → ℕ → {m : _} → statements.Row_of-Statement m → meaning.Text
  block_meant s n statements.end_of-Statement = meaning.End
  block_meant s n (statements.more_of-Statement t ts) = meaning.Next (statement_meant s n t) (block_meant s (n + size t) ts)

  pub other_meant : Scope → ℕ → statements.Held-Statement-If-3 → meaning.Text
  other_meant s n statements.None' = meaning.End
  other_meant s n (statements.Some' m a) = block_meant s n a

-- statements in order
abbrev pub statements_meant : Scope → ℕ → List statements.Statement → List meaning.Statement
statements_meant s n [] = []
statements_meant s n (t ∷ ts) = statement_meant s n t ∷ statements_meant s (n + size t) ts

abbrev pub else_meant : Scope → ℕ → Option (Vec statements.Statement Global) → meaning.Text
else_meant s n None = meaning.End
else_meant s n (Some v) = meaning.text_of (statements_meant s n v.items)

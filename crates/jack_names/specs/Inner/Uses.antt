-- The names that a text uses, in the order of the text, with the calls that its meaning makes by itself (book, chapters 9, 11 and 12).
-- Those are of Math for the operators * and /, of String for a string, of Memory for a constructor.
use Rattle.std.specs.Prelude.{ℕ, ◌+◌, List, [], ◌∷◌, ◌++◌, Option, Some, None, codes}
use Rattle.jack_tree.specs.Seen.{unbox}
use Rattle.scan_text.specs.declared.Place.{Place}
use Rattle.jack_tree.specs.declared.tree.Name.{Name}
use Rattle.jack_tree.specs.declared.tree.Operator.{Operator}
use Rattle.jack_tree.specs.declared.tree.Operator.TheVariants as operator
use Rattle.jack_tree.specs.declared.tree.Constant.{Constant}
use Rattle.jack_tree.specs.declared.tree.Constant.TheVariants as constant
use Rattle.jack_tree.specs.declared.tree.Call.{Call, Call', Row_of-Expression, end_of-Expression, more_of-Expression}
use Rattle.jack_tree.specs.declared.tree.Term as terms
use Rattle.jack_tree.specs.declared.tree.Operation.{Operation}
use Rattle.jack_tree.specs.declared.tree.Expression.{Expression, Expression', Row_of-Operation, end_of-Operation, more_of-Operation}
use Rattle.jack_tree.specs.declared.tree.Statement as statements
use Rattle.jack_tree.specs.declared.tree.Form.{Form}
use Rattle.jack_tree.specs.declared.tree.Form.TheVariants as form
use Rattle.jack_tree.specs.declared.tree.Subroutine.{Subroutine}

pub data Use : Type 0 where
  -- a variable
  Variable : Name → Use
  -- `this`
  This : Place → Use
  -- a call, through a class or variable or neither, of a subroutine with this many arguments
  Calls : Option Name → Name → ℕ → Use
  -- a call through a class that the text doesn't name: class, subroutine and number of arguments, and its place
  Makes : List ℕ → List ℕ → ℕ → Place → Use
  -- a string
  Text : Name → Use

-- an operator, at its place
abbrev pub operator_uses : Operator → Place → List Use
operator_uses operator.Times at = Makes (codes "Math") (codes "multiply") 2 at ∷ []
operator_uses operator.Divide at = Makes (codes "Math") (codes "divide") 2 at ∷ []
operator_uses _ at = []

abbrev pub constant_uses : Constant → List Use
constant_uses (constant.Text t) = Text t ∷ []
constant_uses (constant.This at) = This at ∷ []
constant_uses _ = []

-- how many arguments a row has
abbrev pub row_length : {n : _} → Row_of-Expression n → ℕ
row_length end_of-Expression = 0
row_length (more_of-Expression e es) = 1 + row_length es

abbrev mutual
  pub term_uses : terms.Term → List Use
  term_uses (terms.Constant c) = constant_uses c
  term_uses (terms.Variable x) = Variable x ∷ []
  term_uses (terms.Element' x p e) = Variable x ∷ exp_uses e
  term_uses (terms.Call' p c) = call_uses c
  term_uses (terms.Group' p e) = exp_uses e
  term_uses (terms.Unary' s p t) = term_uses t

  pub call_uses : Call → List Use
  call_uses (Call' o x n es) = Calls o x (row_length es) ∷ row_uses es

  pub exp_uses : Expression → List Use
  exp_uses (Expression' t n os) = term_uses t ++ rest_uses os

  -- the operators of an expression and the terms after them
  pub rest_uses : {n : _} → Row_of-Operation n → List Use
  rest_uses end_of-Operation = []
  rest_uses (more_of-Operation o at t os) = (operator_uses o at ++ term_uses t) ++ rest_uses os

  -- arguments that stand in a call
  pub row_uses : {n : _} → Row_of-Expression n → List Use
  row_uses end_of-Expression = []
  row_uses (more_of-Expression e es) = exp_uses e ++ row_uses es

-- the uses of things, one after the other
abbrev pub all_uses : {A : Type 0} → (A → List Use) → List A → List Use
all_uses uses [] = []
all_uses uses (x ∷ xs) = uses x ++ all_uses uses xs

-- an operator and the term after it
abbrev pub operation_uses : Operation → List Use
operation_uses o = operator_uses o.operator o.place ++ term_uses o.term

abbrev pub operations_uses : List Operation → List Use
operations_uses os = all_uses operation_uses os

-- arguments in order
abbrev pub arguments_uses : List Expression → List Use
arguments_uses es = all_uses exp_uses es

abbrev pub optional_uses : Option Expression → List Use
optional_uses None = []
optional_uses (Some e) = exp_uses e

abbrev mutual
  pub statement_uses : statements.Statement → List Use
  statement_uses (statements.Let at x i e) = Variable x ∷ (optional_uses (unbox i) ++ exp_uses e)
  statement_uses (statements.If' at e n a b) = exp_uses e ++ (block_uses a ++ other_uses b)
  statement_uses (statements.While' at e n a) = exp_uses e ++ block_uses a
  statement_uses (statements.Do at c) = call_uses c
  statement_uses (statements.Return at v) = optional_uses v

  -- statements that stand in a statement
  pub block_uses : {n : _} → statements.Row_of-Statement n → List Use
  block_uses statements.end_of-Statement = []
  block_uses (statements.more_of-Statement s ss) = statement_uses s ++ block_uses ss

  pub other_uses : statements.Held-Statement-If-3 → List Use
  other_uses statements.None' = []
  other_uses (statements.Some' n a) = block_uses a

abbrev pub statements_uses : List statements.Statement → List Use
statements_uses ss = all_uses statement_uses ss

-- A constructor takes the memory of its object, at its name.
abbrev pub form_uses : Form → Place → List Use
form_uses form.Constructor at = Makes (codes "Memory") (codes "alloc") 1 at ∷ []
form_uses _ at = []

abbrev pub subroutine_uses : Subroutine → List Use
subroutine_uses s = form_uses s.form s.name.place ++ statements_uses s.statements.items

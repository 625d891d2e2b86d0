-- How long classes are, over the abstract syntax (book, chapter 10): a bound on how much any list of the trees and of the program that they mean
-- holds. Each name, constant, operator, call and statement counts, and each byte of a string counts as the two parts of a call that it becomes
-- (chapter 11).
use Rattle.std.specs.Prelude.{ℕ, ◌+◌, ◌*◌, List, [], ◌∷◌, Option, Some, None, length}
use Rattle.jack_tree.specs.Syntax.{Constant, String, Expression, Terms, Operations, NoOperation, Then, Term, Value, Variable, Element, Called, Group, Unary, Call, Calls, Expressions, NoExpression, More, Statement, Let, If, IfElse, While, Do, Return, Statements, End, Next, ClassVariables, Locals, Subroutine, Class, ClassFile}

abbrev pub constant_length : Constant → ℕ
constant_length (String s) = 2 + 2 * length s.text
constant_length _ = 1

abbrev mutual
  pub expression_length : Expression → ℕ
  expression_length (Terms t os) = term_length t + operations_length os

  pub operations_length : Operations → ℕ
  operations_length NoOperation = 0
  operations_length (Then o at t os) = 1 + term_length t + operations_length os

  pub term_length : Term → ℕ
  term_length (Value c) = constant_length c
  term_length (Variable x) = 1
  term_length (Element x e) = 2 + expression_length e
  term_length (Called c) = call_length c
  term_length (Group e) = expression_length e
  term_length (Unary o t) = 1 + term_length t

  -- the object of a call counts too
  pub call_length : Call → ℕ
  call_length (Calls o f es) = 2 + arguments_length es

  pub arguments_length : Expressions → ℕ
  arguments_length NoExpression = 0
  arguments_length (More e es) = 1 + expression_length e + arguments_length es

-- an expression, where there is one, and else the 0 that stands for it
abbrev pub value_length : Option Expression → ℕ
value_length None = 1
value_length (Some e) = expression_length e

abbrev mutual
  pub statement_length : Statement → ℕ
  statement_length (Let at x i e) = value_length i + expression_length e
  statement_length (If at e a) = expression_length e + statements_length a
  statement_length (IfElse at e a b) = expression_length e + statements_length a + statements_length b
  statement_length (While at e a) = expression_length e + statements_length a
  statement_length (Do at c) = call_length c
  statement_length (Return at v) = value_length v

  pub statements_length : Statements → ℕ
  statements_length End = 0
  statements_length (Next s ss) = 1 + statement_length s + statements_length ss

-- things of a list, with so much in each
abbrev pub total : {A : Type 0} → (A → ℕ) → List A → ℕ
total f [] = 0
total f (x ∷ xs) = 1 + f x + total f xs

abbrev pub variables_length : ClassVariables → ℕ
variables_length v = length v.names.more

abbrev pub locals_length : Locals → ℕ
locals_length v = length v.names.more

-- a subroutine, whose body may have a statement before its own and one after them
abbrev pub subroutine_length : Subroutine → ℕ
subroutine_length s = 2 + length s.parameters + total locals_length s.locals + statements_length s.statements

abbrev pub class_length : Class → ℕ
class_length c = total variables_length c.variables + total subroutine_length c.subroutines

abbrev pub classes_length : List ClassFile → ℕ
classes_length cs = total (λ c. class_length c.class) cs

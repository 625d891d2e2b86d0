-- The commands of a program's text: the templates of chapters 10 and 11, as linked code, in which a jump names a place and not a label.
-- Each command has the number of its statement, and those that end a step of the meaning are commits.
--
-- In the VM language the same templates have labels: `label WHILE_EXP` stands where a loop begins, `label WHILE_END` after it; `label IF_TRUE`,
-- `label IF_FALSE`, `label IF_END` where the first branch begins, where the second one begins, and where it ends. A label is no step, so the place of
-- a label is the number of commands before it: just the places that stand here.
--
-- Of the two texts of the templates the one with names, Lines, is the definition: it is the VM code that the book shows, and what `compile`
-- writes. What stands here is the form that the laws of a run are about; that the linked code of each compiled program has this form is
-- proved, by `compiled_law`.
use Rattle.std.specs.Prelude.{ℕ, ◌+◌, Bool, true, false, not, nat_eq, if◌then◌else◌, List, [], ◌∷◌, ◌++◌, length}
use Rattle.vm_tree.specs.declared.command.Operation.TheVariants as operation
use Rattle.vm_tree.specs.declared.command.Segment.TheVariants as segment
use Rattle.vm_link.specs.declared.linked.Step.{Step}
use Rattle.vm_link.specs.declared.linked.Step.TheVariants as command
use Rattle.vm_link.specs.declared.linked.Code.{Code}
use Rattle.jack_meaning.specs.Text.{Variable, Argument, Local, Static, Sign, Operator, Expression, Literal, Value, Name, This, Field, Unary, Binary, Load, Call, Open, Expressions, NoMore, More, Statement, Let, LetField, LetThis, Store, Do, If, While, Return, Text, End, Next, number_of, Kind, Constructor, Function, Method, Subroutine}
use Rattle.jack_compiler.specs.Operators.{sign_operation, operator_operation}

-- The numbers that linking gives: of a subroutine among the functions that are kept, and of a static among the static words of all files.
-- Not each subroutine is kept, and not each static has a word: those are that the kept subroutines call and name.
pub record Numbers : Type 0 where
  pub function : ℕ → ℕ
  pub static : ℕ → ℕ
  pub keeps : ℕ → Bool
  pub holds : ℕ → Bool

-- a command on the way, and one that ends a step of the meaning
abbrev pub quiet : ℕ → Step → Code
quiet n c = record { step = c; statement = n; commit = false }

abbrev pub commit : ℕ → Step → Code
commit n c = record { step = c; statement = n; commit = true }

-- true is 65,535, which no command can push: it is the complement of 0
abbrev pub literal_code : ℕ → ℕ → List Code
literal_code n w =
    if nat_eq w 65535 then quiet n (command.Push segment.Constant 0) ∷ commit n (command.Operate operation.Not) ∷ []
    else commit n (command.Push segment.Constant w) ∷ []

abbrev pub push_variable : Numbers → Variable → Step
push_variable numbers (Argument k) = command.Push segment.Argument k
push_variable numbers (Local k) = command.Push segment.Local k
push_variable numbers (Static k) = command.Push segment.Static (numbers.static k)

abbrev pub pop_variable : Numbers → Variable → Step
pop_variable numbers (Argument k) = command.Pop segment.Argument k
pop_variable numbers (Local k) = command.Pop segment.Local k
pop_variable numbers (Static k) = command.Pop segment.Static (numbers.static k)

abbrev pub sign_step : Sign → Step
sign_step o = command.Operate (sign_operation o)

abbrev pub operator_step : Operator → Step
operator_step o = command.Operate (operator_operation o)

-- the address on top becomes the word there
abbrev pub load_code : ℕ → List Code
load_code n = quiet n (command.Operate operation.Add) ∷ quiet n (command.Pop segment.Pointer 1) ∷ commit n (command.Push segment.That 0) ∷ []

-- the value on top goes to the address below it
abbrev pub store_code : ℕ → List Code
store_code n =
    quiet n (command.Pop segment.Temp 0) ∷ quiet n (command.Pop segment.Pointer 1)
    ∷ quiet n (command.Push segment.Temp 0) ∷ commit n (command.Pop segment.That 0) ∷ []

abbrev pub count : Expressions → ℕ
count NoMore = 0
count (More e es) = count es + 1

-- What is left to do of an expression of statement n: all of it, where no part is a value.
abbrev mutual
  pub expression_code : Numbers → ℕ → Expression → List Code
  expression_code numbers n (Value w) = []
  expression_code numbers n (Literal w) = literal_code n w
  expression_code numbers n (Name x) = commit n (push_variable numbers x) ∷ []
  expression_code numbers n This = commit n (command.Push segment.Pointer 0) ∷ []
  expression_code numbers n (Field k) = commit n (command.Push segment.This k) ∷ []
  expression_code numbers n (Unary o a) = expression_code numbers n a ++ commit n (sign_step o) ∷ []
  expression_code numbers n (Binary o a b) =
      expression_code numbers n a ++ (expression_code numbers n b ++ commit n (operator_step o) ∷ [])
  expression_code numbers n (Load a i) = expression_code numbers n a ++ (expression_code numbers n i ++ load_code n)
  expression_code numbers n (Call g es) = arguments_code numbers n es ++ commit n (command.Call (numbers.function g) (count es)) ∷ []
  expression_code numbers n Open = []

  pub arguments_code : Numbers → ℕ → Expressions → List Code
  arguments_code numbers n NoMore = []
  arguments_code numbers n (More e es) = expression_code numbers n e ++ arguments_code numbers n es

-- the number of the first statement of a text, or of what follows it
abbrev pub first_number : ℕ → Text → ℕ
first_number next End = next
first_number next (Next s rest) = number_of s

-- whether an `if` has no second branch, not even an empty one
abbrev pub no_else : Bool → Text → Bool
no_else o End = not o
no_else o (Next s rest) = false

-- The commands of a statement and of a text that begin at a place, where `next` is the number of the statement that follows. An `if-goto`
-- ends the step that chooses; a `goto` belongs to the statement that it leads to. An `if` without an `else` has no `goto` after its
-- statements; with an empty one it has.
abbrev mutual
  pub statement_code : Numbers → ℕ → ℕ → Statement → List Code
  statement_code numbers next p (Let n x e) = expression_code numbers n e ++ commit n (pop_variable numbers x) ∷ []
  statement_code numbers next p (LetField n k e) = expression_code numbers n e ++ commit n (command.Pop segment.This k) ∷ []
  statement_code numbers next p (LetThis n e) = expression_code numbers n e ++ commit n (command.Pop segment.Pointer 0) ∷ []
  statement_code numbers next p (Store n a i e) =
      expression_code numbers n a
      ++ (expression_code numbers n i ++ (quiet n (command.Operate operation.Add) ∷ (expression_code numbers n e ++ store_code n)))
  statement_code numbers next p (Do n e) = expression_code numbers n e ++ commit n (command.Pop segment.Temp 0) ∷ []
  statement_code numbers next p (Return n e) = expression_code numbers n e ++ commit n command.Return ∷ []
  statement_code numbers next p (If n o c a b) =
      let q = p + length (expression_code numbers n c) in
      let first = text_code numbers next (q + 2) a in
      let other = q + 2 + length first in
      let second = text_code numbers next (other + 1) b in
      expression_code numbers n c
      ++ (commit n (command.IfGoto (q + 2))
      ∷ quiet (first_number next b) (command.Goto (if no_else o b then other else other + 1))
      ∷ (first ++ (if no_else o b then [] else quiet next (command.Goto (other + 1 + length second)) ∷ second)))
  statement_code numbers next p (While n c s) =
      let q = p + length (expression_code numbers n c) in
      let turn = text_code numbers n (q + 2) s in
      expression_code numbers n c
      ++ (commit n (command.IfGoto (q + 2)) ∷ quiet next (command.Goto (q + 2 + length turn + 1)) ∷ (turn ++ quiet n (command.Goto p) ∷ []))

  pub text_code : Numbers → ℕ → ℕ → Text → List Code
  text_code numbers next p End = []
  text_code numbers next p (Next s rest) =
      statement_code numbers (first_number next rest) p s
      ++ text_code numbers next (p + length (statement_code numbers (first_number next rest) p s)) rest

-- a method's object is its first argument
abbrev pub object_code : Kind → ℕ → List Code
object_code Method n = quiet n (command.Push segment.Argument 0) ∷ quiet n (command.Pop segment.Pointer 0) ∷ []
object_code Function n = []
object_code Constructor n = []

-- The code of a subroutine: its start makes the locals, and belongs to the first statement. (A constructor takes its memory by a
-- statement of its own, the first of its text.)
abbrev pub subroutine_code : Numbers → Subroutine → List Code
subroutine_code numbers sub =
    quiet (first_number 0 sub.body) (command.Function sub.locals)
    ∷ (object_code sub.kind (first_number 0 sub.body)
    ++ text_code numbers 0 (1 + length (object_code sub.kind (first_number 0 sub.body))) sub.body)

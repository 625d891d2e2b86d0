-- The commands of a program's text in the VM language: the templates of chapters 7 to 11 with names of functions and labels. Each line has the
-- number of its statement, and those that end a step of the meaning are commits. The labels of a subroutine are numbered from 0 in the order of
-- the text, those of `if` and those of `while` apart.
--
-- Of the two texts of the templates this one is the definition: it is the VM code that the book shows, and what `compile` writes. Templates
-- has the same commands as linked code, with numbers for names and places for labels; that linking makes just that of these lines is proved,
-- by `compiled_law`.
use Rattle.std.specs.Prelude.{ℕ, suc, ◌+◌, ◌-◌, true, false, nat_eq, if◌then◌else◌, List, [], ◌∷◌, ◌++◌, codes, decimal}
use Rattle.vm_tree.specs.declared.command.Operation.TheVariants as operation
use Rattle.vm_tree.specs.declared.command.Segment.TheVariants as segment
use Rattle.vm_tree.specs.declared.command.Command.{Command}
use Rattle.vm_tree.specs.declared.command.Command.TheVariants as command
use Rattle.vm_tree.specs.declared.command.Line.{Line}
use Rattle.jack_meaning.specs.Text.{Variable, Argument, Local, Static, Sign, Operator, Expression, Literal, Value, Name, This, Field, Unary, Binary, Load, Call, Open, Expressions, NoMore, More, Statement, Let, LetField, LetThis, Store, Do, If, While, Return, Text, End, Next, Kind, Constructor, Function, Method, Subroutine}
use Rattle.jack_compiler.specs.Operators.{sign_operation, operator_operation}
use Rattle.jack_compiler.specs.Templates.{count, first_number, no_else}

-- What a subroutine's commands need of the program: the name of each subroutine, and how many statics the classes before its own have. (The
-- VM numbers the statics of each file from 0.)
pub record Around : Type 0 where
  pub name : ℕ → List ℕ
  pub before : ℕ

-- a command on the way, and one that ends a step of the meaning
abbrev pub quiet : ℕ → Command → Line
quiet n c = record { command = c; statement = n; commit = false }

abbrev pub commit : ℕ → Command → Line
commit n c = record { command = c; statement = n; commit = true }

-- the labels of the k-th `if` and of the k-th `while` of a subroutine
abbrev pub if_true : ℕ → List ℕ
if_true k = codes "IF_TRUE" ++ decimal k

abbrev pub if_false : ℕ → List ℕ
if_false k = codes "IF_FALSE" ++ decimal k

abbrev pub if_end : ℕ → List ℕ
if_end k = codes "IF_END" ++ decimal k

abbrev pub while_exp : ℕ → List ℕ
while_exp k = codes "WHILE_EXP" ++ decimal k

abbrev pub while_do : ℕ → List ℕ
while_do k = codes "WHILE_DO" ++ decimal k

abbrev pub while_end : ℕ → List ℕ
while_end k = codes "WHILE_END" ++ decimal k

-- how many choices and how many loops a text has
abbrev mutual
  pub ifs_of : Statement → ℕ
  ifs_of (If n o c a b) = suc (ifs_in a + ifs_in b)
  ifs_of (While n c s) = ifs_in s
  ifs_of _ = 0

  pub ifs_in : Text → ℕ
  ifs_in End = 0
  ifs_in (Next s rest) = ifs_of s + ifs_in rest

abbrev mutual
  pub whiles_of : Statement → ℕ
  whiles_of (If n o c a b) = whiles_in a + whiles_in b
  whiles_of (While n c s) = suc (whiles_in s)
  whiles_of _ = 0

  pub whiles_in : Text → ℕ
  whiles_in End = 0
  whiles_in (Next s rest) = whiles_of s + whiles_in rest

-- true is 65,535, which no command can push: it is the complement of 0
abbrev pub literal_lines : ℕ → ℕ → List Line
literal_lines n w =
    if nat_eq w 65535 then quiet n (command.Push segment.Constant 0) ∷ commit n (command.Operate operation.Not) ∷ []
    else commit n (command.Push segment.Constant w) ∷ []

abbrev pub sign_command : Sign → Command
sign_command o = command.Operate (sign_operation o)

abbrev pub operator_command : Operator → Command
operator_command o = command.Operate (operator_operation o)

-- the address on top becomes the word there
abbrev pub load_lines : ℕ → List Line
load_lines n = quiet n (command.Operate operation.Add) ∷ quiet n (command.Pop segment.Pointer 1) ∷ commit n (command.Push segment.That 0) ∷ []

-- the value on top goes to the address below it
abbrev pub store_lines : ℕ → List Line
store_lines n =
    quiet n (command.Pop segment.Temp 0) ∷ quiet n (command.Pop segment.Pointer 1)
    ∷ quiet n (command.Push segment.Temp 0) ∷ commit n (command.Pop segment.That 0) ∷ []

-- where the condition of the k-th `if` is left
abbrev pub into_if : ℕ → ℕ → ℕ → List Line
into_if n other k =
    commit n (command.IfGoto (if_true k)) ∷ quiet other (command.Goto (if_false k)) ∷ quiet n (command.Label (if_true k)) ∷ []

-- between its branches
abbrev pub into_else : ℕ → ℕ → ℕ → List Line
into_else n next k = quiet next (command.Goto (if_end k)) ∷ quiet n (command.Label (if_false k)) ∷ []

-- where the condition of the k-th `while` is left
abbrev pub into_while : ℕ → ℕ → ℕ → List Line
into_while n next k =
    commit n (command.IfGoto (while_do k)) ∷ quiet next (command.Goto (while_end k)) ∷ quiet n (command.Label (while_do k)) ∷ []

-- where it begins again
abbrev pub out_of_while : ℕ → ℕ → List Line
out_of_while n k = quiet n (command.Goto (while_exp k)) ∷ quiet n (command.Label (while_end k)) ∷ []

module _ (around : Around) where
  abbrev pub push_variable : Variable → Command
  push_variable (Argument k) = command.Push segment.Argument k
  push_variable (Local k) = command.Push segment.Local k
  push_variable (Static k) = command.Push segment.Static (k - around.before)

  abbrev pub pop_variable : Variable → Command
  pop_variable (Argument k) = command.Pop segment.Argument k
  pop_variable (Local k) = command.Pop segment.Local k
  pop_variable (Static k) = command.Pop segment.Static (k - around.before)

  -- What is left to do of an expression of statement n: all of it, where no part is a value.
  abbrev mutual
    pub expression_lines : ℕ → Expression → List Line
    expression_lines n (Value w) = []
    expression_lines n (Literal w) = literal_lines n w
    expression_lines n (Name x) = commit n (push_variable x) ∷ []
    expression_lines n This = commit n (command.Push segment.Pointer 0) ∷ []
    expression_lines n (Field k) = commit n (command.Push segment.This k) ∷ []
    expression_lines n (Unary o a) = expression_lines n a ++ commit n (sign_command o) ∷ []
    expression_lines n (Binary o a b) = expression_lines n a ++ (expression_lines n b ++ commit n (operator_command o) ∷ [])
    expression_lines n (Load a i) = expression_lines n a ++ (expression_lines n i ++ load_lines n)
    expression_lines n (Call g es) = arguments_lines n es ++ commit n (command.Call (around.name g) (count es)) ∷ []
    expression_lines n Open = []

    pub arguments_lines : ℕ → Expressions → List Line
    arguments_lines n NoMore = []
    arguments_lines n (More e es) = expression_lines n e ++ arguments_lines n es

  -- The commands of a statement and of a text. Here `next` is the number of the statement that follows, and these numbers of choices and
  -- loops stand before it in the subroutine. An `if-goto` ends the step that chooses; a `goto` belongs to the statement that it leads to. An
  -- `if` without an `else` has no `goto` and no third label; with an empty `else` it has both.
  abbrev mutual
    pub statement_lines : ℕ → ℕ → ℕ → Statement → List Line
    statement_lines next i w (Let n x e) = expression_lines n e ++ commit n (pop_variable x) ∷ []
    statement_lines next i w (LetField n k e) = expression_lines n e ++ commit n (command.Pop segment.This k) ∷ []
    statement_lines next i w (LetThis n e) = expression_lines n e ++ commit n (command.Pop segment.Pointer 0) ∷ []
    statement_lines next i w (Store n a j e) =
        expression_lines n a
        ++ (expression_lines n j ++ (quiet n (command.Operate operation.Add) ∷ (expression_lines n e ++ store_lines n)))
    statement_lines next i w (Do n e) = expression_lines n e ++ commit n (command.Pop segment.Temp 0) ∷ []
    statement_lines next i w (Return n e) = expression_lines n e ++ commit n command.Return ∷ []
    statement_lines next i w (If n o c a b) =
        expression_lines n c
        ++ (into_if n (first_number next b) i
        ++ (text_lines next (suc i) w a
        ++ (if no_else o b then quiet n (command.Label (if_false i)) ∷ []
        else into_else n next i ++ (text_lines next (suc i + ifs_in a) (w + whiles_in a) b ++ quiet n (command.Label (if_end i)) ∷ []))))
    statement_lines next i w (While n c s) =
        quiet n (command.Label (while_exp w))
        ∷ (expression_lines n c ++ (into_while n next w ++ (text_lines n i (suc w) s ++ out_of_while n w)))

    pub text_lines : ℕ → ℕ → ℕ → Text → List Line
    text_lines next i w End = []
    text_lines next i w (Next s rest) = statement_lines (first_number next rest) i w s ++ text_lines next (i + ifs_of s) (w + whiles_of s) rest

-- a method's object is its first argument
abbrev pub object_lines : Kind → ℕ → List Line
object_lines Method n = quiet n (command.Push segment.Argument 0) ∷ quiet n (command.Pop segment.Pointer 0) ∷ []
object_lines Function n = []
object_lines Constructor n = []

-- The lines of a subroutine. Its start belongs to the first statement. (A constructor takes its memory by a statement of its own, the first
-- of its text.)
abbrev pub subroutine_lines : Around → Subroutine → List Line
subroutine_lines around sub = object_lines sub.kind (first_number 0 sub.body) ++ text_lines around 0 0 0 sub.body

-- How many words the image of a program has at most, by its text: a number for each expression, statement and subroutine that is linked. (The
-- book, chapters 7 to 11: what the compiler's templates come to in machine code.)
use Rattle.std.specs.Prelude.{◌≡◌, ◌≢◌, ◌≤◌, ◌<◌, ℕ, ◌+◌, ◌*◌, List, length, sum_by}
use Rattle.std.specs.List.{AllPairs, Contains}
use Rattle.hack_isa.specs.Machine.{image_words}
use Rattle.vm_link.specs.declared.linked.Linked.{Linked}
use Rattle.vm_translator.specs.Image.{image_of}
use Rattle.jack_meaning.specs.Text.{Operator, Plus, Subtract, And, Or, Less, Greater, Equal, Expression, Literal, Value, Name, This, Field, Unary, Binary, Load, Call, Open, Expressions, NoMore, More, Statement, Let, LetField, LetThis, Store, Do, If, While, Return, Text, End, Next, Subroutine, Program}
use Rattle.jack_meaning.specs.Meaning.{subroutine_at}
use Rattle.jack_meaning.specs.Linked.{IsLinked}
use Rattle.jack_core.specs.declared.program.Core.{Core}
use Rattle.jack_core.specs.Texts.{the_program}
use Rattle.jack_compiler.specs.Resolved.{IsResolvedCore}
use Rattle.tower.specs.Image.{IsNotBuilt, LargeImage}
use Rattle.tower.specs.VmRun.{IsVmCodeOf}

-- A comparison, a call and a return go through routines that are written once.
abbrev pub operator_words : Operator → ℕ
operator_words Plus = 5
operator_words Subtract = 5
operator_words And = 5
operator_words Or = 5
operator_words Less = 4
operator_words Greater = 4
operator_words Equal = 4

-- an expression: its parts, and a number of words for what is done with them
abbrev mutual
  pub expression_words : Expression → ℕ
  expression_words (Literal w) = 9
  expression_words (Name x) = 9
  expression_words This = 9
  expression_words (Field k) = 9
  expression_words (Unary o a) = expression_words a + 3
  expression_words (Binary o a b) = expression_words a + expression_words b + operator_words o
  expression_words (Load a i) = expression_words a + expression_words i + 18
  expression_words (Call g es) = arguments_words es + 12
  -- no program's text has a value or an open call
  expression_words (Value w) = 0
  expression_words Open = 0

  pub arguments_words : Expressions → ℕ
  arguments_words NoMore = 0
  arguments_words (More e es) = expression_words e + arguments_words es

abbrev mutual
  pub statement_words : Statement → ℕ
  statement_words (Let n x e) = expression_words e + 12
  statement_words (LetField n k e) = expression_words e + 12
  statement_words (LetThis n e) = expression_words e + 12
  statement_words (Store n a i e) = expression_words a + expression_words i + expression_words e + 28
  statement_words (Do n e) = expression_words e + 5
  statement_words (If n o c a b) = expression_words c + text_words a + text_words b + 9
  statement_words (While n c s) = expression_words c + text_words s + 9
  statement_words (Return n e) = expression_words e + 8

  pub text_words : Text → ℕ
  text_words End = 0
  text_words (Next s rest) = statement_words s + text_words rest

-- a subroutine: its entry, which makes the locals, and its text
abbrev pub subroutine_words : Subroutine → ℕ
subroutine_words sub = 14 + 4 * sub.locals + text_words sub.body

abbrev pub words_at : Program → ℕ → ℕ
words_at program g = subroutine_words (subroutine_at program.subroutines g)

-- The budget of a program: 256 words for the start and what is shared, and those of its linked subroutines, each once.
pub record IsBudget (program : Program) (words : ℕ) : Type 0 where
  pub linked : List ℕ
  pub all : (g : ℕ) → IsLinked program g → Contains linked g
  pub only : (g : ℕ) → Contains linked g → IsLinked program g
  pub once : AllPairs (λ g h. g ≢ h) linked
  pub sum : words ≡ 256 + sum_by (words_at program) linked

pub record BudgetLaw : Type 0 where
  -- a program has one budget
  pub one : (program : Program) (v w : ℕ) → IsBudget program v → IsBudget program w → v ≡ w
  -- Each program whose names are resolved has a budget, if it is linked, and the image of its code has no more words.
  pub has : (core : Core) (linked : Linked) → IsResolvedCore core → IsVmCodeOf core linked
      → (words : ℕ) × IsBudget (the_program core) words
  pub within : (core : Core) (linked : Linked) → IsResolvedCore core → IsVmCodeOf core linked
      → (words : ℕ) → IsBudget (the_program core) words → length (image_of linked) ≤ words
  -- A program whose image is too large has a budget of as many words, and of more than there is room for.
  pub too_large : (core : Core) (w : ℕ) → IsResolvedCore core → IsNotBuilt core (LargeImage w)
      → (words : ℕ) → IsBudget (the_program core) words → (w ≤ words) × (image_words < words)

-- The subroutines that a program can come to. (Chapters 7 and 8: a program begins with a call of `Sys.init`.)
use Rattle.std.specs.Prelude.{ℕ, List, [], ◌∷◌, ◌++◌}
use Rattle.std.specs.List.{Contains}
use Rattle.jack_meaning.specs.Text.{Expression, Unary, Binary, Load, Call, Expressions, NoMore, More, Statement, Let, LetField, LetThis, Store, Do, If, While, Return, Text, End, Next, Program}
use Rattle.jack_meaning.specs.Meaning.{subroutine_at}

-- the subroutines that an expression calls, in the order of the calls
abbrev mutual
  pub calls : Expression → List ℕ
  calls (Unary o a) = calls a
  calls (Binary o a b) = calls a ++ calls b
  calls (Load a i) = calls a ++ calls i
  calls (Call g es) = calls_in es ++ g ∷ []
  calls _ = []

  pub calls_in : Expressions → List ℕ
  calls_in NoMore = []
  calls_in (More e es) = calls e ++ calls_in es

-- the same of a statement and of a text, both branches of a choice and the statements of a loop included
abbrev mutual
  pub statement_calls : Statement → List ℕ
  statement_calls (Let n x e) = calls e
  statement_calls (LetField n k e) = calls e
  statement_calls (LetThis n e) = calls e
  statement_calls (Store n a i e) = calls a ++ (calls i ++ calls e)
  statement_calls (Do n e) = calls e
  statement_calls (If n o c a b) = calls c ++ (text_calls a ++ text_calls b)
  statement_calls (While n c s) = calls c ++ text_calls s
  statement_calls (Return n e) = calls e

  pub text_calls : Text → List ℕ
  text_calls End = []
  text_calls (Next s rest) = statement_calls s ++ text_calls rest

-- The linked subroutines: `Sys.init`, every subroutine that the text of a linked one calls, and no others.
pub data IsLinked (program : Program) : ℕ → Type 0 where
  init : IsLinked program program.init
  called : {g h : ℕ} → IsLinked program g → Contains (text_calls (subroutine_at program.subroutines g).body) h → IsLinked program h

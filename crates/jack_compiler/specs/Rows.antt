-- The code of small subroutines, written out, and a program with code for which the laws' conditions hold.
use Rattle.std.specs.Prelude.{◌≡◌, ℕ, zero, suc, ◌-◌, Bool, true, false, [], ◌∷◌, Some}
use Rattle.vm_tree.specs.declared.command.Operation.TheVariants as operation
use Rattle.vm_tree.specs.declared.command.Segment.TheVariants as segment
use Rattle.vm_link.specs.declared.linked.Step.TheVariants as command
use Rattle.vm_link.specs.declared.linked.LinkedFunction.{LinkedFunction}
use Rattle.vm_link.specs.declared.linked.Linked.{Linked}
use Rattle.jack_meaning.specs.Text.{Argument, Local, Static, Minus, Complement, Literal, Name, This, Unary, Load, Call, NoMore, More, Let, LetField, LetThis, Store, Do, If, While, Return, text_of, Constructor, Function, Method, Subroutine}
use Rattle.jack_meaning.specs.Meaning.{subroutine_at}
use Rattle.jack_meaning.specs.Rows.{stores_one}
use Rattle.jack_compiler.specs.Templates.{Numbers, quiet, commit, subroutine_code}
use Rattle.jack_compiler.specs.Fits.{IsFit}
use Rattle.jack_compiler.specs.Match.{IsCodeOf}

-- function 9 is the one that is called, the static is word 7
abbrev pub some_numbers : Numbers
some_numbers = record { function = λ g. 9; static = λ k. 7; keeps = λ g. true; holds = λ k. true }

-- method int m(int x) { var int y; if (x) { let y = -1; } else { let f = true; } while (y) { let a[y] = this; } return y; }
abbrev pub a_method : Subroutine
a_method = record {
  kind = Method;
  class = 0;
  arguments = 2;
  locals = 1;
  body = text_of (
      If 1 true (Name (Argument 1)) (text_of (Let 2 (Local 0) (Unary Minus (Literal 1)) ∷ [])) (text_of (LetField 3 2 (Literal 65535) ∷ []))
      ∷ While 4 (Name (Local 0)) (text_of (Store 5 (Name (Static 0)) (Name (Local 0)) This ∷ []))
      ∷ Return 6 (Name (Local 0))
      ∷ []
      );
}

-- function void f() { var Array a; if (a[1]) { do Main.g(2, ~3); } return; }
abbrev pub a_function : Subroutine
a_function = record {
  kind = Function;
  class = 0;
  arguments = 0;
  locals = 1;
  body = text_of (
      If 1 false (Load (Name (Local 0)) (Literal 1)) (text_of (Do 2 (Call 4 (More (Literal 2) (More (Unary Complement (Literal 3)) NoMore))) ∷ [])) (text_of [])
      ∷ Return 3 (Literal 0)
      ∷ []
      );
}

-- function void h(int x) { if (x) { let x = 1; } else { } return; }
abbrev pub an_empty_else : Subroutine
an_empty_else = record {
  kind = Function;
  class = 0;
  arguments = 1;
  locals = 0;
  body = text_of (If 1 true (Name (Argument 0)) (text_of (Let 2 (Argument 0) (Literal 1) ∷ [])) (text_of []) ∷ Return 3 (Literal 0) ∷ []);
}

-- constructor Main new(int x) { let f = x; return this; }
abbrev pub a_constructor : Subroutine
a_constructor = record {
  kind = Constructor;
  class = 0;
  arguments = 1;
  locals = 0;
  body = text_of (LetThis 0 (Call 4 (More (Literal 1) NoMore)) ∷ LetField 1 0 (Name (Argument 0)) ∷ Return 2 This ∷ []);
}

-- of the first two subroutines after `start` each is kept
abbrev pub first_two : ℕ → Bool
first_two zero = false
first_two (suc zero) = true
first_two (suc (suc zero)) = true
first_two (suc (suc (suc g))) = false

abbrev pub small_numbers : Numbers
small_numbers = record { function = λ g. g - 1; static = λ k. k; keeps = first_two; holds = λ k. false }

abbrev pub small_function : ℕ → LinkedFunction
small_function g = record { name = []; file = 0; number = g; code = subroutine_code small_numbers (subroutine_at (stores_one 16384).subroutines g) }

-- the linked code of a program without statics: Sys.init calls Main.main, which stores a word
abbrev pub small_code : Linked
small_code = record { functions = small_function 1 ∷ small_function 2 ∷ []; files = []; start = Some 0; bare = false; marked = true }

pub record RowsLaw : Type 0 where
  pub method : subroutine_code some_numbers a_method ≡
      quiet 1 (command.Function 1)
      ∷ quiet 1 (command.Push segment.Argument 0)
      ∷ quiet 1 (command.Pop segment.Pointer 0)
      ∷ commit 1 (command.Push segment.Argument 1)
      ∷ commit 1 (command.IfGoto 6)
      ∷ quiet 3 (command.Goto 10)
      ∷ commit 2 (command.Push segment.Constant 1)
      ∷ commit 2 (command.Operate operation.Neg)
      ∷ commit 2 (command.Pop segment.Local 0)
      ∷ quiet 4 (command.Goto 13)
      ∷ quiet 3 (command.Push segment.Constant 0)
      ∷ commit 3 (command.Operate operation.Not)
      ∷ commit 3 (command.Pop segment.This 2)
      ∷ commit 4 (command.Push segment.Local 0)
      ∷ commit 4 (command.IfGoto 16)
      ∷ quiet 6 (command.Goto 25)
      ∷ commit 5 (command.Push segment.Static 7)
      ∷ commit 5 (command.Push segment.Local 0)
      ∷ quiet 5 (command.Operate operation.Add)
      ∷ commit 5 (command.Push segment.Pointer 0)
      ∷ quiet 5 (command.Pop segment.Temp 0)
      ∷ quiet 5 (command.Pop segment.Pointer 1)
      ∷ quiet 5 (command.Push segment.Temp 0)
      ∷ commit 5 (command.Pop segment.That 0)
      ∷ quiet 4 (command.Goto 13)
      ∷ commit 6 (command.Push segment.Local 0)
      ∷ commit 6 command.Return
      ∷ []
  pub function : subroutine_code some_numbers a_function ≡
      quiet 1 (command.Function 1)
      ∷ commit 1 (command.Push segment.Local 0)
      ∷ commit 1 (command.Push segment.Constant 1)
      ∷ quiet 1 (command.Operate operation.Add)
      ∷ quiet 1 (command.Pop segment.Pointer 1)
      ∷ commit 1 (command.Push segment.That 0)
      ∷ commit 1 (command.IfGoto 8)
      ∷ quiet 3 (command.Goto 13)
      ∷ commit 2 (command.Push segment.Constant 2)
      ∷ commit 2 (command.Push segment.Constant 3)
      ∷ commit 2 (command.Operate operation.Not)
      ∷ commit 2 (command.Call 9 2)
      ∷ commit 2 (command.Pop segment.Temp 0)
      ∷ commit 3 (command.Push segment.Constant 0)
      ∷ commit 3 command.Return
      ∷ []
  -- after the first branch stands a `goto` to the end, which is where the empty second one begins
  pub empty_else : subroutine_code some_numbers an_empty_else ≡
      quiet 1 (command.Function 0)
      ∷ commit 1 (command.Push segment.Argument 0)
      ∷ commit 1 (command.IfGoto 4)
      ∷ quiet 3 (command.Goto 7)
      ∷ commit 2 (command.Push segment.Constant 1)
      ∷ commit 2 (command.Pop segment.Argument 0)
      ∷ quiet 3 (command.Goto 7)
      ∷ commit 3 (command.Push segment.Constant 0)
      ∷ commit 3 command.Return
      ∷ []
  pub constructor : subroutine_code some_numbers a_constructor ≡
      quiet 0 (command.Function 0)
      ∷ commit 0 (command.Push segment.Constant 1)
      ∷ commit 0 (command.Call 9 1)
      ∷ commit 0 (command.Pop segment.Pointer 0)
      ∷ commit 1 (command.Push segment.Argument 0)
      ∷ commit 1 (command.Pop segment.This 0)
      ∷ commit 2 (command.Push segment.Pointer 0)
      ∷ commit 2 command.Return
      ∷ []
  -- the conditions of the laws hold of a program and its code
  pub fits : IsFit (stores_one 16384) small_numbers 0 2
  pub linked : IsCodeOf (stores_one 16384) small_numbers small_code

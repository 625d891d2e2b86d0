-- The budgets of three programs, by computation.
use Rattle.std.specs.Prelude.{ℕ, true, [], ◌∷◌, ◌++◌, replicate}
use Rattle.jack_meaning.specs.Text.{Minus, Complement, Plus, Subtract, And, Or, Less, Greater, Equal, Expression, Literal, Local, Name, This, Field, Unary, Binary, Load, Statement, Let, LetField, LetThis, Store, If, While, Return, Program, text_of}
use Rattle.jack_meaning.specs.Rows.{class_of, function, small}
use Rattle.tower.specs.Budget.{IsBudget}

-- Main.main has the locals a, i and j, and this statement this many times; at its end stands `return;`. The system is one class, whose Sys.init
-- is `do Main.main(); return;`.
abbrev pub repeated_program : ℕ → Statement → Program
repeated_program n s = small (class_of 0 0 ∷ class_of 0 0 ∷ []) (function 1 3 (replicate n s ++ Return 0 (Literal 0) ∷ []) ∷ [])

abbrev pub local : ℕ → Expression
local k = Name (Local k)

-- -f + (this - (1 & (a | (i < (j > (2 = ~3)))))), where f is the first field
abbrev pub each_operator : Expression
each_operator =
    Binary Plus (Unary Minus (Field 0)) (Binary Subtract This (
    Binary And (Literal 1) (Binary Or (local 0) (Binary Less (local 1) (Binary Greater (local 2) (Binary Equal (Literal 2) (Unary Complement (Literal 3))))))
    ))

-- while (a) { if (that) { let f = 1; } else { let this = 2; } }
abbrev pub nested_statement : Statement
nested_statement = While 1 (local 0) (text_of (If 2 true each_operator (text_of (LetField 3 0 (Literal 1) ∷ [])) (text_of (LetThis 4 (Literal 2) ∷ [])) ∷ []))

pub record BudgetRows : Type 0 where
  -- let a[i] = j;
  pub stores : IsBudget (repeated_program 560 (Store 0 (local 0) (local 1) (local 2))) 31147
  -- let i = a[j];
  pub loads : IsBudget (repeated_program 668 (Let 0 (Local 1) (Load (local 0) (local 2)))) 32411
  -- what those have not: each operator, a field, this, and the other statements
  pub others : IsBudget (repeated_program 1 nested_statement) 526

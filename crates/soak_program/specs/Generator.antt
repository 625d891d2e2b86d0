-- The generator of programs, as docs/FORMATS has it ("Generated programs"): relations of a state, a text and the state after it, one constructor a
-- rule. (The book has no generator; this one is the project's own.)
use Rattle.std.specs.Prelude.{◌≡◌, ◌<◌, ◌+◌, ◌*◌, ◌/◌, ◌%◌, ℕ, suc, List, [], ◌∷◌, ◌++◌, codes, decimal, slice_get, Some}

-- the state after a draw
abbrev pub next : ℕ → ℕ
next s = (s * 1103515245 + 12345) % 2147483648

-- In the state s the number n below k is drawn, and t is the state after that.
pub record IsDraw (k s n t : ℕ) : Type 0 where
  pub after : t ≡ next s
  pub answer : n ≡ t / 65536 % k

-- a number below k
pub data IsNumber (k s : ℕ) : List ℕ → ℕ → Type 0 where
  Number : {n t : ℕ} → IsDraw k s n t → IsNumber k s (decimal n ++ codes " ") t

-- a, b or c
abbrev pub variable_text : ℕ → List ℕ
variable_text n = (97 + n) ∷ codes " "

pub data IsVariable (s : ℕ) : List ℕ → ℕ → Type 0 where
  Variable : {n t : ℕ} → IsDraw 3 s n t → IsVariable s (variable_text n) t

-- a variable, a large number or a small one
pub data IsLeaf (s : ℕ) : List ℕ → ℕ → Type 0 where
  OfVariable : {n t : ℕ} → IsDraw 5 s n t → n < 3 → IsLeaf s (variable_text n) t
  Large : {t u : ℕ} {x : List ℕ} → IsDraw 5 s 3 t → IsNumber 32768 t x u → IsLeaf s x u
  Small : {t u : ℕ} {x : List ℕ} → IsDraw 5 s 4 t → IsNumber 10 t x u → IsLeaf s x u

-- the sign before a term
pub data IsSign (s : ℕ) : List ℕ → ℕ → Type 0 where
  Negation : {t : ℕ} → IsDraw 2 s 0 t → IsSign s (codes "- ") t
  Complement : {t : ℕ} → IsDraw 2 s 1 t → IsSign s (codes "~ ") t

abbrev pub operators : List ℕ
operators = codes "+-*/&|<>="

-- An expression of at most this depth. The operator is drawn before the terms, and the left term before the right one.
pub data IsExpression : ℕ → ℕ → List ℕ → ℕ → Type 0 where
  Flat : {s t : ℕ} {x : List ℕ} → IsLeaf s x t → IsExpression 0 s x t
  Leaf : {d s t u : ℕ} {x : List ℕ} → IsDraw 4 s 0 t → IsLeaf t x u → IsExpression (suc d) s x u
  Pair : {d s t u v w n k o : ℕ} {x y : List ℕ} → IsDraw 4 s (suc n) t → IsDraw 10 t k u → slice_get operators k ≡ Some o → IsExpression d u x v → IsExpression d v y w
      → IsExpression (suc d) s (codes "( " ++ x ++ o ∷ codes " " ++ y ++ codes ") ") w
  Signed : {d s t u v w n : ℕ} {sign x : List ℕ} → IsDraw 4 s (suc n) t → IsDraw 10 t 9 u → IsSign u sign v → IsExpression d v x w
      → IsExpression (suc d) s (codes "( " ++ sign ++ x ++ codes ") ") w

-- The variable is drawn before the expression.
pub data IsLet (d s : ℕ) : List ℕ → ℕ → Type 0 where
  Let : {t u : ℕ} {x y : List ℕ} → IsVariable s x t → IsExpression d t y u → IsLet d s (codes "let " ++ x ++ codes "= " ++ y ++ codes ";\n") u

pub data IsChoice (s : ℕ) : List ℕ → ℕ → Type 0 where
  Choice : {t u v : ℕ} {x y z : List ℕ} → IsExpression 2 s x t → IsLet 2 t y u → IsLet 2 u z v
      → IsChoice s (codes "if ( " ++ x ++ codes ") {\n" ++ y ++ codes "}\nelse {\n" ++ z ++ codes "}\n") v

-- an assignment or a choice
pub data IsStatement (s : ℕ) : List ℕ → ℕ → Type 0 where
  Assignment : {n t u : ℕ} {x : List ℕ} → IsDraw 3 s n t → n < 2 → IsLet 3 t x u → IsStatement s x u
  Either : {t u : ℕ} {x : List ℕ} → IsDraw 3 s 2 t → IsChoice t x u → IsStatement s x u

-- this many statements
pub data IsStatements : ℕ → ℕ → List ℕ → ℕ → Type 0 where
  None : {s : ℕ} → IsStatements 0 s [] s
  Next : {n s t u : ℕ} {x y : List ℕ} → IsStatement s x t → IsStatements n t y u → IsStatements (suc n) s (x ++ y) u

abbrev pub head : List ℕ
head = codes "class Main {\nstatic int a , b , c ;\nstatic Array d ;\nfunction void main ( ) {\nlet d = Array . new ( 8 ) ;\n"

abbrev pub tail : List ℕ
tail = codes "let d [ 0 ] = a ;\nlet d [ 1 ] = b ;\nlet d [ 2 ] = c ;\nreturn ;\n}\n}\n"

-- a class with one to six statements
pub data IsProgramText (s : ℕ) : List ℕ → ℕ → Type 0 where
  Program : {n t u : ℕ} {x : List ℕ} → IsDraw 6 s n t → IsStatements (suc n) t x u → IsProgramText s (head ++ x ++ tail) u

-- the state in which the program of a number, from 1 on, begins
abbrev pub first_state : ℕ → ℕ → ℕ
first_state seed number = (seed * 1000 + number) % 2147483648

-- The program of this number has this text.
pub record IsProgram (seed number : ℕ) (text : List ℕ) : Type 0 where
  pub after : ℕ
  pub generated : IsProgramText (first_state seed number) text after

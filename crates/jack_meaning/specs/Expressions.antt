-- How an expression becomes a value, one part at a time. (Chapter 9 says what the parts mean.)
use Rattle.std.specs.Prelude.{ℕ, ◌+◌, ◌-◌, Bool, true, false, nat_lt, nat_eq, if◌then◌else◌, List, [], ◌∷◌, slice_index}
use Rattle.word16.specs.Memory.{heap, keyboard}
use Rattle.word16.specs.Words.{word_add}
use Rattle.jack_meaning.specs.Words.{sign_of, operator_of}
use Rattle.jack_meaning.specs.Text.{Variable, Argument, Local, Static, Expression, Literal, Value, Name, This, Field, Unary, Binary, Load, Call, Open, Expressions, NoMore, More}

-- What one step does to a text.
pub data Move (A : Type 0) : Type 0 where
  -- nothing: it is a value already
  Stands : Move A
  -- a part becomes its value; whether the key was heard for it
  Rewrites : Bool → A → Move A
  -- a call becomes an open call; its subroutine and its arguments
  Calls : ℕ → List ℕ → A → Move A
  -- a load at an address outside the memory
  Strays : ℕ → Move A

-- The move of a part is a move of the whole. Where the part is a value already, the move is that of what comes after it.
abbrev pub within : {A B : Type 0} → Move A → (A → B) → Move B → Move B
within Stands whole after = after
within (Rewrites heard a) whole after = Rewrites heard (whole a)
within (Calls g xs a) whole after = Calls g xs (whole a)
within (Strays a) whole after = Strays a

-- what an expression can read: the frame's variables and its `this`, the statics, the words of heap and screen, and the key
pub record View : Type 0 where
  pub arguments : List ℕ
  pub locals : List ℕ
  pub this : ℕ
  pub statics : List ℕ
  pub words : List ℕ
  pub key : ℕ

-- the value of a variable
abbrev pub variable_of : View → Variable → ℕ
variable_of v (Argument k) = slice_index v.arguments k
variable_of v (Local k) = slice_index v.locals k
variable_of v (Static k) = slice_index v.statics k

-- the value that an expression is
abbrev pub value_of : Expression → ℕ
value_of (Value w) = w
value_of _ = 0

-- the values that these expressions are
abbrev pub values_of : Expressions → List ℕ
values_of NoMore = []
values_of (More e es) = value_of e ∷ values_of es

-- The word at an address becomes a value: that of heap or screen, and at the keyboard's address the key.
abbrev pub loaded_word : View → ℕ → Move Expression
loaded_word v a =
    if nat_lt a heap then Strays a
    else (if nat_lt a keyboard then Rewrites false (Value (slice_index v.words (a - heap)))
    else (if nat_eq a keyboard then Rewrites true (Value v.key) else Strays a))

-- The leftmost innermost part that is no value becomes its value. A field is the word at `this` plus its number.
abbrev mutual
  pub rewrite : View → Expression → Move Expression
  rewrite v (Value w) = Stands
  rewrite v (Literal n) = Rewrites false (Value n)
  rewrite v (Name x) = Rewrites false (Value (variable_of v x))
  rewrite v This = Rewrites false (Value v.this)
  rewrite v (Field k) = loaded_word v (word_add v.this k)
  rewrite v (Unary o a) =
      within (rewrite v a) (Unary o) (Rewrites false (Value (sign_of o (value_of a))))
  rewrite v (Binary o a b) =
      within (rewrite v a) (λ a'. Binary o a' b)
      (within (rewrite v b) (Binary o a) (Rewrites false (Value (operator_of o (value_of a) (value_of b)))))
  rewrite v (Load a i) =
      within (rewrite v a) (λ a'. Load a' i)
      (within (rewrite v i) (Load a) (loaded_word v (word_add (value_of a) (value_of i))))
  rewrite v (Call g es) = within (rewrite_first v es) (Call g) (Calls g (values_of es) Open)
  rewrite v Open = Stands

  pub rewrite_first : View → Expressions → Move Expressions
  rewrite_first v NoMore = Stands
  rewrite_first v (More e es) =
      within (rewrite v e) (λ e'. More e' es) (within (rewrite_first v es) (More e) Stands)

-- a value in place of the open call
abbrev mutual
  pub filled : ℕ → Expression → Expression
  filled w Open = Value w
  filled w (Unary o a) = Unary o (filled w a)
  filled w (Binary o a b) = Binary o (filled w a) (filled w b)
  filled w (Load a i) = Load (filled w a) (filled w i)
  filled w (Call g es) = Call g (filled_in w es)
  filled w e = e

  pub filled_in : ℕ → Expressions → Expressions
  filled_in w NoMore = NoMore
  filled_in w (More e es) = More (filled w e) (filled_in w es)

-- the values that stand in an expression; an open call is no value
abbrev mutual
  pub standing : Expression → ℕ
  standing (Value w) = 1
  standing (Unary o a) = standing a
  standing (Binary o a b) = standing a + standing b
  standing (Load a i) = standing a + standing i
  standing (Call g es) = standing_in es
  standing e = 0

  pub standing_in : Expressions → ℕ
  standing_in NoMore = 0
  standing_in (More e es) = standing e + standing_in es

-- The text of a program: its statements and expressions with their names resolved, in which some parts have become values.
-- (The language of the book's chapter 9; a string and the operators * and / are calls.)
use Rattle.std.specs.Prelude.{ℕ, Bool, List, [], ◌∷◌}

-- A variable, by its number among those of its kind. A method's object is argument 0; the statics are numbered through all classes.
pub data Variable : Type 0 where
  Argument : ℕ → Variable
  Local : ℕ → Variable
  Static : ℕ → Variable

-- - and ~ before a term, and the shifts ^ and #, which are not the book's
pub data Sign : Type 0 where
  Minus Complement ShiftLeft ShiftRight : Sign

-- + - & | < > =
pub data Operator : Type 0 where
  Plus Subtract And Or Less Greater Equal : Operator

-- Expressions, and the lists of them that calls have.
mutual
  pub data Expression : Type 0 where
    -- a number of the text, which is not yet a value
    Literal : ℕ → Expression
    Value : ℕ → Expression
    Name : Variable → Expression
    This : Expression
    -- a field of `this`, by its number
    Field : ℕ → Expression
    Unary : Sign → Expression → Expression
    Binary : Operator → Expression → Expression → Expression
    -- an array's element: base and index
    Load : Expression → Expression → Expression
    -- a call of the subroutine of this number; a method's object comes first
    Call : ℕ → Expressions → Expression
    -- a call that was made and has not returned
    Open : Expression

  pub data Expressions : Type 0 where
    NoMore : Expressions
    More : Expression → Expressions → Expressions

-- Statements, each with its number, and texts of them.
mutual
  pub data Statement : Type 0 where
    Let : ℕ → Variable → Expression → Statement
    -- `let` of a field, by its number
    LetField : ℕ → ℕ → Expression → Statement
    -- `this` of a constructor becomes the block that it has taken
    LetThis : ℕ → Expression → Statement
    -- `let` of an array's element: base, index, value
    Store : ℕ → Expression → Expression → Expression → Statement
    Do : ℕ → Expression → Statement
    -- whether the text has an `else`, the condition, and the statements of both branches
    If : ℕ → Bool → Expression → Text → Text → Statement
    While : ℕ → Expression → Text → Statement
    Return : ℕ → Expression → Statement

  pub data Text : Type 0 where
    End : Text
    Next : Statement → Text → Text

-- statements, one after the other
abbrev pub text_of : List Statement → Text
text_of [] = End
text_of (s ∷ ss) = Next s (text_of ss)

-- one text after another
abbrev pub joined_text : Text → Text → Text
joined_text End after = after
joined_text (Next s rest) after = Next s (joined_text rest after)

-- the number of a statement
abbrev pub number_of : Statement → ℕ
number_of (Let n x e) = n
number_of (LetField n k e) = n
number_of (LetThis n e) = n
number_of (Store n a i e) = n
number_of (Do n e) = n
number_of (If n o c a b) = n
number_of (While n c s) = n
number_of (Return n e) = n

-- the three kinds of subroutine (chapter 9)
pub data Kind : Type 0 where
  Constructor Function Method : Kind

-- A subroutine: its kind, the number of its class, and its statements, the last of which is a `return`. It says how many arguments
-- it takes (a method's object is one), and how many locals it has.
pub record Subroutine : Type 0 where
  pub kind : Kind
  pub class : ℕ
  pub arguments : ℕ
  pub locals : ℕ
  pub body : Text

-- a class: how many fields and how many statics it has
pub record Class : Type 0 where
  pub fields : ℕ
  pub statics : ℕ

-- A program: its classes, its subroutines and the number of `Sys.init`. Number 0 is `start`, which no call names.
pub record Program : Type 0 where
  pub classes : List Class
  pub subroutines : List Subroutine
  pub init : ℕ

-- What is left to do in the frames calls only subroutines that the program can come to.
use Rattle.std.specs.Prelude.{◌<◌, List, [], ◌∷◌, length}
use Rattle.jack_meaning.specs.Text.{Expression, Literal, Value, Name, This, Field, Unary, Binary, Load, Call, Open, Expressions, NoMore, More, Statement, Let, LetField, LetThis, Store, Do, If, While, Return, Text, End, Next, Program}
use Rattle.jack_meaning.specs.Meaning.{Frame}
use Rattle.jack_meaning.specs.Linked.{IsLinked}

module _ (program : Program) where
  abbrev mutual
    pub Calls : Expression → Type 0
    Calls (Value w) = Unit {0}
    Calls Open = Unit {0}
    Calls (Literal w) = Unit {0}
    Calls (Name x) = Unit {0}
    Calls This = Unit {0}
    Calls (Field k) = Unit {0}
    Calls (Unary o a) = Calls a
    Calls (Binary o a b) = Calls a × Calls b
    Calls (Load a i) = Calls a × Calls i
    Calls (Call g es) = IsLinked program g × CallsEach es

    pub CallsEach : Expressions → Type 0
    CallsEach NoMore = Unit {0}
    CallsEach (More e es) = Calls e × CallsEach es

  abbrev mutual
    pub CallsIn : Statement → Type 0
    CallsIn (Let n x e) = Calls e
    CallsIn (LetField n k e) = Calls e
    CallsIn (LetThis n e) = Calls e
    CallsIn (Store n a i e) = Calls a × Calls i × Calls e
    CallsIn (Do n e) = Calls e
    CallsIn (If n o c a b) = Calls c × CallsText a × CallsText b
    CallsIn (While n c s) = Calls c × CallsText s
    CallsIn (Return n e) = Calls e

    pub CallsText : Text → Type 0
    CallsText End = Unit {0}
    CallsText (Next s rest) = CallsIn s × CallsText rest

  -- each frame is of a subroutine that is there, and its text calls such ones
  abbrev pub AreReached : List Frame → Type 0
  AreReached [] = Unit {0}
  AreReached (f ∷ fs) = (f.subroutine < length program.subroutines) × CallsText f.text × AreReached fs

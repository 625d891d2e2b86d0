-- What the text of a subroutine names, as its commands can name it. That is a variable by a number of 16 bits, a static of its own
-- class, and a subroutine that is there.
use Rattle.std.specs.Prelude.{◌<◌, ◌≤◌, ◌-◌, ℕ, List, [], ◌∷◌, length}
use Rattle.jack_meaning.specs.Text.{Variable, Argument, Local, Static, Expression, Literal, Value, Name, This, Field, Unary, Binary, Load, Call, Open, Expressions, NoMore, More, Statement, Let, LetField, LetThis, Store, Do, If, While, Return, Text, End, Next, Subroutine}
use Rattle.jack_core.specs.declared.tree.Part.{Part}
use Rattle.jack_core.specs.declared.tree.Part.TheVariants as part
use Rattle.jack_compiler.specs.Templates.{count}
use Rattle.jack_compiler.specs.declared.expressions.Around.{Around}

module _ (around : Around) where
  abbrev pub NamesVariable : Variable → Type 0
  NamesVariable (Argument k) = k < 65536
  NamesVariable (Local k) = k < 65536
  NamesVariable (Static k) = (around.before ≤ k) × (k - around.before < 65536)

  -- a call with this many arguments
  abbrev pub NamesCall : ℕ → ℕ → Type 0
  NamesCall g arguments = (g < length around.subroutines.now) × (arguments < 65536)

  abbrev pub NamesPart : Part → Type 0
  NamesPart (part.Literal w) = Unit {0}
  NamesPart (part.Argument k) = NamesVariable (Argument k)
  NamesPart (part.Local k) = NamesVariable (Local k)
  NamesPart (part.Static k) = NamesVariable (Static k)
  NamesPart part.This = Unit {0}
  NamesPart (part.Field k) = Unit {0}
  NamesPart (part.Unary o) = Unit {0}
  NamesPart (part.Binary o) = Unit {0}
  NamesPart part.Load = Unit {0}
  NamesPart (part.Call arguments g) = NamesCall g arguments

  abbrev pub NamesParts : List Part → Type 0
  NamesParts [] = Unit {0}
  NamesParts (p ∷ ps) = NamesPart p × NamesParts ps

  abbrev mutual
    pub Names : Expression → Type 0
    Names (Value w) = Unit {0}
    Names Open = Unit {0}
    Names (Literal w) = Unit {0}
    Names (Name x) = NamesVariable x
    Names This = Unit {0}
    Names (Field k) = Unit {0}
    Names (Unary o a) = Names a
    Names (Binary o a b) = Names a × Names b
    Names (Load a i) = Names a × Names i
    Names (Call g es) = NamesCall g (count es) × NamesEach es

    pub NamesEach : Expressions → Type 0
    NamesEach NoMore = Unit {0}
    NamesEach (More e es) = Names e × NamesEach es

  abbrev mutual
    pub NamesIn : Statement → Type 0
    NamesIn (Let n x e) = NamesVariable x × Names e
    NamesIn (LetField n k e) = Names e
    NamesIn (LetThis n e) = Names e
    NamesIn (Store n a i e) = Names a × Names i × Names e
    NamesIn (Do n e) = Names e
    NamesIn (If n o c a b) = Names c × NamesText a × NamesText b
    NamesIn (While n c s) = Names c × NamesText s
    NamesIn (Return n e) = Names e

    pub NamesText : Text → Type 0
    NamesText End = Unit {0}
    NamesText (Next s rest) = NamesIn s × NamesText rest

  -- a subroutine with its number: its own name is there, and its locals are counted by 16 bits
  pub record NamesAll (number : ℕ) (sub : Subroutine) : Type 0 where
    pub there : number < length around.subroutines.now
    pub locals : sub.locals < 65536
    pub text : NamesText sub.body

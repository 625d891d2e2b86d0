-- The limits that this reader of the language has. There are at most 256 levels, one in another. At most 16,384 statics and fields stand
-- in a class, parameters and locals in a subroutine, and arguments in a call. Strings have at most 16,384 bytes. A statement is a level
-- round its parts. So are `(` and `[` round what is in them (a call's `(` with nothing in it is no level), and a sign round its term.
-- The levels begin anew in each subroutine.
use Rattle.std.specs.Prelude.{ℕ, ◌+◌, ◌<◌, ◌≤◌, List, [], ◌∷◌, Option, Some, None, length}
use Rattle.jack_tree.specs.Syntax.{Constant, String, Expression, Terms, Operations, NoOperation, Then, Term, Value, Variable, Element, Called, Group, Unary, Call, Calls, Expressions, NoExpression, More, Statement, Let, If, IfElse, While, Do, Return, Statements, End, Next, Names, Scope, Static, Field, ClassVariables, Subroutine, Class}

-- a string's bytes
abbrev pub IsShort : Constant → Type 0
IsShort (String s) = length s.text ≤ 16384
IsShort c = Unit {0}

-- how many there are
abbrev pub count_of : Expressions → ℕ
count_of NoExpression = 0
count_of (More e es) = 1 + count_of es

-- An expression keeps the limits where it stands in n levels.
abbrev mutual
  pub KeepsIn : ℕ → Expression → Type 0
  KeepsIn n (Terms t os) = TermKeepsIn n t × OperationsKeepIn n os

  pub OperationsKeepIn : ℕ → Operations → Type 0
  OperationsKeepIn n NoOperation = Unit {0}
  OperationsKeepIn n (Then o at t os) = TermKeepsIn n t × OperationsKeepIn n os

  pub TermKeepsIn : ℕ → Term → Type 0
  TermKeepsIn n (Value c) = IsShort c
  TermKeepsIn n (Variable x) = Unit {0}
  TermKeepsIn n (Element x e) = (n < 256) × KeepsIn (n + 1) e
  TermKeepsIn n (Called c) = CallKeepsIn n c
  TermKeepsIn n (Group e) = (n < 256) × KeepsIn (n + 1) e
  TermKeepsIn n (Unary s t) = (n < 256) × TermKeepsIn (n + 1) t

  pub CallKeepsIn : ℕ → Call → Type 0
  CallKeepsIn n (Calls o f es) = ArgumentsKeepIn n es

  pub ArgumentsKeepIn : ℕ → Expressions → Type 0
  ArgumentsKeepIn n NoExpression = Unit {0}
  ArgumentsKeepIn n (More e es) = (n < 256) × (1 + count_of es ≤ 16384) × KeepsIn (n + 1) e × ExpressionsKeepIn (n + 1) es

  pub ExpressionsKeepIn : ℕ → Expressions → Type 0
  ExpressionsKeepIn n NoExpression = Unit {0}
  ExpressionsKeepIn n (More e es) = KeepsIn n e × ExpressionsKeepIn n es

-- an expression in brackets, and one without, if there is one
abbrev pub IndexKeepsIn : ℕ → Option Expression → Type 0
IndexKeepsIn n None = Unit {0}
IndexKeepsIn n (Some e) = (n < 256) × KeepsIn (n + 1) e

abbrev pub ValueKeepsIn : ℕ → Option Expression → Type 0
ValueKeepsIn n None = Unit {0}
ValueKeepsIn n (Some e) = KeepsIn n e

-- The parts of a statement keep the limits in n levels, and so do statements in n levels, each of which is one more round its parts. A
-- condition stands in parentheses.
abbrev mutual
  pub PartsKeepIn : ℕ → Statement → Type 0
  PartsKeepIn n (Let at x i e) = IndexKeepsIn n i × KeepsIn n e
  PartsKeepIn n (If at e body) = (n < 256) × KeepsIn (n + 1) e × StatementsKeepIn n body
  PartsKeepIn n (IfElse at e body other) = (n < 256) × KeepsIn (n + 1) e × StatementsKeepIn n body × StatementsKeepIn n other
  PartsKeepIn n (While at e body) = (n < 256) × KeepsIn (n + 1) e × StatementsKeepIn n body
  PartsKeepIn n (Do at c) = CallKeepsIn n c
  PartsKeepIn n (Return at v) = ValueKeepsIn n v

  pub StatementsKeepIn : ℕ → Statements → Type 0
  StatementsKeepIn n End = Unit {0}
  StatementsKeepIn n (Next s ss) = (n < 256) × PartsKeepIn (n + 1) s × StatementsKeepIn n ss

-- ---- Declarations

abbrev pub total : {X : Type 0} → (X → ℕ) → List X → ℕ
total f [] = 0
total f (x ∷ xs) = f x + total f xs

abbrev pub names_of : Names → ℕ
names_of ns = 1 + length ns.more

-- this many statics, and this many fields, where they are of this scope
abbrev pub statics_by : Scope → ℕ → ℕ
statics_by Static n = n
statics_by Field n = 0

abbrev pub fields_by : Scope → ℕ → ℕ
fields_by Static n = 0
fields_by Field n = n

abbrev pub statics_in : ClassVariables → ℕ
statics_in v = statics_by v.scope (names_of v.names)

abbrev pub fields_in : ClassVariables → ℕ
fields_in v = fields_by v.scope (names_of v.names)

pub record SubroutineKeeps (s : Subroutine) : Type 0 where
  pub parameters : length s.parameters ≤ 16384
  pub locals : total (λ v. names_of v.names) s.locals ≤ 16384
  pub statements : StatementsKeepIn 0 s.statements

abbrev pub SubroutinesKeep : List Subroutine → Type 0
SubroutinesKeep [] = Unit {0}
SubroutinesKeep (s ∷ ss) = SubroutineKeeps s × SubroutinesKeep ss

pub record KeepsLimits (c : Class) : Type 0 where
  pub statics : total statics_in c.variables ≤ 16384
  pub fields : total fields_in c.variables ≤ 16384
  pub subroutines : SubroutinesKeep c.subroutines

-- What every class that a text spells keeps to (book, chapter 10). A name is letters, digits and underscores of ASCII, an integer is at most
-- 32,767, and a string has at most 16,384 bytes, all of ASCII. There are limits on how many things are declared. A text has at most 1,048,576
-- bytes, so it declares no more subroutines than that.
use Rattle.std.specs.Prelude.{◌≡◌, ◌<◌, ◌≤◌, ℕ, true, List, [], ◌∷◌, Option, Some, None, length}
use Rattle.std.specs.List.{All}
use Rattle.jack_tree.specs.Seen.{unbox}
use Rattle.grammar.specs.Words.{is_name_byte}
use Rattle.jack_tree.specs.declared.tree.Constant.{Constant}
use Rattle.jack_tree.specs.declared.tree.Constant.TheVariants as constant
use Rattle.jack_tree.specs.declared.tree.Call.{Call, Call', Row_of-Expression, end_of-Expression, more_of-Expression}
use Rattle.jack_tree.specs.declared.tree.Term as terms
use Rattle.jack_tree.specs.declared.tree.Expression.{Expression, Expression', Row_of-Operation, end_of-Operation, more_of-Operation}
use Rattle.jack_tree.specs.declared.tree.Statement as statements
use Rattle.jack_tree.specs.declared.tree.Subroutine.{Subroutine}
use Rattle.jack_tree.specs.declared.tree.Class.{Class}
use Rattle.jack_names.specs.Symbols.{statics_of}
use Rattle.jack_names.specs.Limits.{IsWithin}

-- letters, digits and underscores
abbrev pub IsName : List ℕ → Type 0
IsName text = All (λ b. is_name_byte b ≡ true) text

pub record IsString (text : List ℕ) : Type 0 where
  pub short : length text ≤ 16384
  pub ascii : All (λ b. b < 128) text

abbrev pub IsReadConstant : Constant → Type 0
IsReadConstant (constant.Integer n) = n ≤ 32767
IsReadConstant (constant.Text t) = IsString t.text
IsReadConstant _ = Unit {0}

abbrev mutual
  pub IsReadTerm : terms.Term → Type 0
  IsReadTerm (terms.Constant c) = IsReadConstant c
  IsReadTerm (terms.Variable x) = Unit {0}
  IsReadTerm (terms.Element' x p e) = IsRead e
  IsReadTerm (terms.Call' p c) = IsReadCall c
  IsReadTerm (terms.Group' p e) = IsRead e
  IsReadTerm (terms.Unary' o p t) = IsReadTerm t

  pub IsReadCall : Call → Type 0
  IsReadCall (Call' o f n es) = AreRead es

  -- an expression
  pub IsRead : Expression → Type 0
  IsRead (Expression' t n os) = IsReadTerm t × AreReadOperations os

  -- the terms after operators
  pub AreReadOperations : {n : _} → Row_of-Operation n → Type 0
  AreReadOperations end_of-Operation = Unit {0}
  AreReadOperations (more_of-Operation o at t os) = IsReadTerm t × AreReadOperations os

  -- the arguments of a call
  pub AreRead : {n : _} → Row_of-Expression n → Type 0
  AreRead end_of-Expression = Unit {0}
  AreRead (more_of-Expression e es) = IsRead e × AreRead es

abbrev pub IsReadIfThere : Option Expression → Type 0
IsReadIfThere None = Unit {0}
IsReadIfThere (Some e) = IsRead e

abbrev mutual
  pub IsReadStatement : statements.Statement → Type 0
  IsReadStatement (statements.Let at x i e) = IsReadIfThere (unbox i) × IsRead e
  IsReadStatement (statements.If' at e n a b) = IsRead e × IsReadBlock a × IsReadElse b
  IsReadStatement (statements.While' at e n a) = IsRead e × IsReadBlock a
  IsReadStatement (statements.Do at c) = IsReadCall c
  IsReadStatement (statements.Return at v) = IsReadIfThere v

  -- statements that stand in a statement
  pub IsReadBlock : {n : _} → statements.Row_of-Statement n → Type 0
  IsReadBlock statements.end_of-Statement = Unit {0}
  IsReadBlock (statements.more_of-Statement t ts) = IsReadStatement t × IsReadBlock ts

  pub IsReadElse : statements.Held-Statement-If-3 → Type 0
  IsReadElse statements.None' = Unit {0}
  IsReadElse (statements.Some' n a) = IsReadBlock a

abbrev pub AreReadStatements : List statements.Statement → Type 0
AreReadStatements [] = Unit {0}
AreReadStatements (t ∷ ts) = IsReadStatement t × AreReadStatements ts

pub record IsReadSubroutine (s : Subroutine) : Type 0 where
  pub name : IsName s.name.text
  pub statements : AreReadStatements s.statements.items

abbrev pub AreReadSubroutines : List Subroutine → Type 0
AreReadSubroutines [] = Unit {0}
AreReadSubroutines (s ∷ ss) = IsReadSubroutine s × AreReadSubroutines ss

pub record IsReadClass (c : Class) : Type 0 where
  pub within : IsWithin c
  pub name : IsName c.name.text
  pub statics : statics_of c.variables.items ≤ 16384
  pub few : length c.subroutines.items ≤ 1048576
  pub subroutines : AreReadSubroutines c.subroutines.items

abbrev pub AreReadClasses : List Class → Type 0
AreReadClasses [] = Unit {0}
AreReadClasses (c ∷ cs) = IsReadClass c × AreReadClasses cs

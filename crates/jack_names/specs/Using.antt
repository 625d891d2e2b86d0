-- What a Jack program declares and uses, in the order of its text, with the calls that its meaning makes by itself (book, chapters 9 to 12).
-- Those are of Math for the operators * and /, of String for a string, of Memory for a constructor, and of Sys.init for the start.
use Rattle.std.specs.Prelude.{ℕ, ◌+◌, Bool, true, false, List, [], ◌∷◌, ◌++◌, map, Option, Some, None, if◌then◌else◌, codes}
use Rattle.std.specs.Str.{bytes_eq}
use Rattle.scan_text.specs.Text.{nowhere}
use Rattle.scan_text.specs.declared.Place.{Place}
use Rattle.jack_tree.specs.Syntax as tree
use Rattle.jack_names.specs.Faults.{Source}
use Rattle.jack_names.specs.declared.scope.Way.{Way}
use Rattle.jack_names.specs.declared.scope.Way.TheVariants as way

-- the first of these that has a name
abbrev pub find_named : {A : Type 0} → (A → List ℕ) → List ℕ → List A → Option A
find_named name x [] = None
find_named name x (a ∷ more) = if bytes_eq x (name a) then Some a else find_named name x more

pub record Variable : Type 0 where
  pub name : tree.Name
  pub type : tree.ValueType
  pub is_field : Bool

abbrev pub variable : Bool → tree.ValueType → tree.Name → Variable
variable is_field type name = record { name = name; type = type; is_field = is_field }

abbrev pub all_names : tree.Names → List tree.Name
all_names ns = ns.first ∷ ns.more

abbrev pub is_field : tree.Scope → Bool
is_field tree.Field = true
is_field tree.Static = false

-- the fields and statics of a class
abbrev pub members : List tree.ClassVariables → List Variable
members [] = []
members (v ∷ vs) = map (variable (is_field v.scope) v.type) (all_names v.names) ++ members vs

abbrev pub parameters : List tree.Parameter → List Variable
parameters ps = map (λ p. variable false p.type p.name) ps

abbrev pub locals : List tree.Locals → List Variable
locals [] = []
locals (v ∷ vs) = map (variable false v.type) (all_names v.names) ++ locals vs

-- the parameters and locals of a subroutine
abbrev pub inner : tree.Subroutine → List Variable
inner s = parameters s.parameters ++ locals s.locals

-- a call that the text does not write: how it is made, its class, its subroutine and how many arguments it has, and its place
pub record Made : Type 0 where
  pub way : Way
  pub class : List ℕ
  pub name : List ℕ
  pub arguments : ℕ
  pub place : Place

abbrev pub by_class : List ℕ → List ℕ → ℕ → Place → Made
by_class class name n at = record { way = way.ByClass; class = class; name = name; arguments = n; place = at }

-- what the text names at one place
pub data Use : Type 0 where
  -- a variable that is read or assigned
  OfVariable : tree.Name → Use
  -- the name before the dot of a call
  OfFront : tree.Name → Use
  -- the subroutine of a call, after a front name or without one, with this many arguments
  OfCall : Option tree.Name → tree.Name → ℕ → Use
  -- `this`
  OfThis : Place → Use
  OfString : tree.Name → Use
  -- what the text does not write
  OfMade : Made → Use

abbrev pub operator_uses : tree.Operator → Place → List Use
operator_uses tree.Times at = OfMade (by_class (codes "Math") (codes "multiply") 2 at) ∷ []
operator_uses tree.Divide at = OfMade (by_class (codes "Math") (codes "divide") 2 at) ∷ []
operator_uses _ at = []

abbrev pub constant_uses : tree.Constant → List Use
constant_uses (tree.String t) = OfString t ∷ []
constant_uses (tree.This at) = OfThis at ∷ []
constant_uses _ = []

-- how many arguments there are
abbrev pub count : tree.Expressions → ℕ
count tree.NoExpression = 0
count (tree.More e es) = 1 + count es

abbrev pub front_uses : Option tree.Name → List Use
front_uses None = []
front_uses (Some x) = OfFront x ∷ []

abbrev mutual
  pub expression_uses : tree.Expression → List Use
  expression_uses (tree.Terms t os) = term_uses t ++ operations_uses os

  pub operations_uses : tree.Operations → List Use
  operations_uses tree.NoOperation = []
  operations_uses (tree.Then o at t os) = operator_uses o at ++ term_uses t ++ operations_uses os

  pub term_uses : tree.Term → List Use
  term_uses (tree.Value c) = constant_uses c
  term_uses (tree.Variable x) = OfVariable x ∷ []
  term_uses (tree.Element x e) = OfVariable x ∷ expression_uses e
  term_uses (tree.Called c) = call_uses c
  term_uses (tree.Group e) = expression_uses e
  term_uses (tree.Unary s t) = term_uses t

  pub call_uses : tree.Call → List Use
  call_uses (tree.Calls o f es) = front_uses o ++ OfCall o f (count es) ∷ arguments_uses es

  pub arguments_uses : tree.Expressions → List Use
  arguments_uses tree.NoExpression = []
  arguments_uses (tree.More e es) = expression_uses e ++ arguments_uses es

abbrev pub optional_uses : Option tree.Expression → List Use
optional_uses None = []
optional_uses (Some e) = expression_uses e

abbrev mutual
  pub statement_uses : tree.Statement → List Use
  statement_uses (tree.Let at x i e) = OfVariable x ∷ (optional_uses i ++ expression_uses e)
  statement_uses (tree.If at e a) = expression_uses e ++ statements_uses a
  statement_uses (tree.IfElse at e a b) = expression_uses e ++ (statements_uses a ++ statements_uses b)
  statement_uses (tree.While at e a) = expression_uses e ++ statements_uses a
  statement_uses (tree.Do at c) = call_uses c
  statement_uses (tree.Return at v) = optional_uses v

  pub statements_uses : tree.Statements → List Use
  statements_uses tree.End = []
  statements_uses (tree.Next s ss) = statement_uses s ++ statements_uses ss

-- A constructor takes the memory of its object, at its name.
abbrev pub form_uses : tree.Form → Place → List Use
form_uses tree.Constructor at = OfMade (by_class (codes "Memory") (codes "alloc") 1 at) ∷ []
form_uses _ at = []

abbrev pub subroutine_uses : tree.Subroutine → List Use
subroutine_uses s = form_uses s.form s.name.place ++ statements_uses s.statements

-- A string is made by String.new; one that is not empty is then filled by its method appendChar.
abbrev pub filled_parts : List ℕ → Place → List Made
filled_parts [] at = []
filled_parts (b ∷ bs) at = record { way = way.ByObject; class = codes "String"; name = codes "appendChar"; arguments = 1; place = at } ∷ []

-- the calls that a use makes by itself
abbrev pub made_calls : Use → List Made
made_calls (OfString t) = by_class (codes "String") (codes "new") 1 t.place ∷ filled_parts t.text t.place
made_calls (OfMade m) = m ∷ []
made_calls _ = []

-- The body of a subroutine: the variables that it can name, its form, the subroutines of its class, and what it uses. Of the variables,
-- parameters and locals come before fields and statics.
pub record Body : Type 0 where
  pub variables : List Variable
  pub form : tree.Form
  pub siblings : List tree.Subroutine
  pub uses : List Use

abbrev pub body : tree.Class → tree.Subroutine → Body
body c s = record { variables = inner s ++ members c.variables; form = s.form; siblings = c.subroutines; uses = subroutine_uses s }

pub record File : Type 0 where
  pub source : Source
  pub bodies : List Body

abbrev pub source : Bool → tree.ClassFile → Source
source shipped c = record { shipped = shipped; file = c.file }

abbrev pub file : Bool → tree.ClassFile → File
file shipped c = record { source = source shipped c; bodies = map (body c.class) c.class.subroutines }

-- The program begins by a call of Sys.init, whose place is before all else in that file.
abbrev pub start_body : Body
start_body = record { variables = []; form = tree.Function; siblings = []; uses = OfMade (by_class (codes "Sys") (codes "init") 0 nowhere) ∷ [] }

abbrev pub start_file : File
start_file = record { source = record { shipped = true; file = codes "Sys.jack" }; bodies = start_body ∷ [] }

-- The operating system's files, with that call just before the file of Sys, or at the end where there is no such file.
abbrev pub system_files : List tree.ClassFile → List File
system_files [] = start_file ∷ []
system_files (c ∷ cs) = if bytes_eq c.file (codes "Sys.jack") then start_file ∷ map (file true) (c ∷ cs) else file true c ∷ system_files cs

-- the files of a program: the folder's, or those of the operating system
abbrev pub files : List tree.ClassFile → List tree.ClassFile → Bool → List File
files own os false = map (file false) own
files own os true = system_files os

abbrev pub classes : List tree.ClassFile → List tree.ClassFile → Bool → List tree.ClassFile
classes own os false = own
classes own os true = os

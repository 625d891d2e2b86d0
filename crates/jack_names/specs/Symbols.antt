-- What classes and subroutines declare, as tables (the symbol tables of the book's chapter 11).
use Rattle.std.specs.Prelude.{ℕ, ◌+◌, Bool, List, [], ◌∷◌, ◌++◌, Option, Some, None, length, if◌then◌else◌, slice_get}
use Rattle.jack_tree.specs.declared.tree.Name.{Name}
use Rattle.jack_tree.specs.declared.tree.Type as types
use Rattle.jack_tree.specs.declared.tree.Type.TheVariants as type
use Rattle.jack_tree.specs.declared.tree.Scope as scopes
use Rattle.jack_tree.specs.declared.tree.Scope.TheVariants as scope
use Rattle.jack_tree.specs.declared.tree.ClassVariables.{ClassVariables}
use Rattle.jack_tree.specs.declared.tree.Locals.{Locals}
use Rattle.jack_tree.specs.declared.tree.Parameter.{Parameter}
use Rattle.jack_tree.specs.declared.tree.Form.{Form}
use Rattle.jack_tree.specs.declared.tree.Subroutine.{Subroutine}
use Rattle.jack_tree.specs.declared.tree.Class.{Class}
use Rattle.name_table.specs.Names.{find_value, first_of}
use Rattle.jack_names.specs.Inner.Twice.{names_of, source_of}
use Rattle.jack_names.specs.Faults.{Source}
use Rattle.jack_names.specs.Inner.Scopes.{Scope, is_method}
use Rattle.jack_names.specs.declared.scope.Slot.{Slot}
use Rattle.jack_names.specs.declared.scope.Slot.TheVariants as slot
use Rattle.jack_names.specs.declared.scope.Declared.{Declared}
use Rattle.jack_names.specs.declared.scope.Signature.{Signature}

-- each class by its number, in order from this one on
abbrev pub class_numbers : ℕ → List Class → List (List ℕ × ℕ)
class_numbers n [] = []
class_numbers n (c ∷ cs) = (c.name.text, n) ∷ class_numbers (n + 1) cs

-- the subroutines of a class, numbered from this one on
abbrev pub signatures : ℕ → List Subroutine → List (List ℕ × Signature)
signatures n [] = []
signatures n (s ∷ ss) = (s.name.text, record { number = n; form = s.form; parameters = length s.parameters.items }) ∷ signatures (n + 1) ss

-- for each class its subroutines, which are numbered through all classes
abbrev pub all_signatures : ℕ → List Class → List (List (List ℕ × Signature))
all_signatures n [] = []
all_signatures n (c ∷ cs) = signatures n c.subroutines.items ∷ all_signatures (n + length c.subroutines.items) cs

-- what is found in the table of a number
abbrev pub found_at : {V : Type 0} → Option (List (List ℕ × V)) → List ℕ → Option V
found_at None x = None
found_at (Some es) x = find_value x es

-- The names that all of a program can use: the number of each class, and the subroutines of the class of a number.
pub record Symbols : Type 0 where
  pub class : List ℕ → Option ℕ
  pub subroutine : ℕ → List ℕ → Option Signature

-- the names of these classes; subroutine 0 is none of theirs
abbrev pub symbols_of : List Class → Symbols
symbols_of all = record { class = λ x. find_value x (class_numbers 0 all); subroutine = λ k f. found_at (slice_get (all_signatures 1 all) k) f }

-- the number of the class that is a type
abbrev pub type_class : Symbols → types.Type → Option ℕ
type_class symbols (type.Class n) = symbols.class n.text
type_class symbols _ = None

-- names of one declaration, numbered from this one on
abbrev pub line_entries : (ℕ → Slot) → Option ℕ → ℕ → List Name → List (List ℕ × Declared)
line_entries at class k [] = []
line_entries at class k (x ∷ xs) = (x.text, record { slot = at k; class = class }) ∷ line_entries at class (k + 1) xs

-- Fields and statics are numbered apart, in order of declaration; f fields and s statics come before.
abbrev pub member_line : Symbols → ℕ → ℕ → ClassVariables → scopes.Scope → List (List ℕ × Declared)
member_line symbols f s v scope.Field = line_entries slot.Field (type_class symbols v.kind) f (names_of v.names)
member_line symbols f s v scope.Static = line_entries slot.Static (type_class symbols v.kind) s (names_of v.names)

abbrev pub fields_in : scopes.Scope → ClassVariables → ℕ
fields_in scope.Field v = length (names_of v.names)
fields_in scope.Static v = 0

abbrev pub statics_in : scopes.Scope → ClassVariables → ℕ
statics_in scope.Field v = 0
statics_in scope.Static v = length (names_of v.names)

abbrev pub fields_of : List ClassVariables → ℕ
fields_of [] = 0
fields_of (v ∷ vs) = fields_in v.scope v + fields_of vs

abbrev pub statics_of : List ClassVariables → ℕ
statics_of [] = 0
statics_of (v ∷ vs) = statics_in v.scope v + statics_of vs

abbrev pub member_entries : Symbols → ℕ → ℕ → List ClassVariables → List (List ℕ × Declared)
member_entries symbols f s [] = []
member_entries symbols f s (v ∷ vs) = member_line symbols f s v v.scope ++ member_entries symbols (f + fields_in v.scope v) (s + statics_in v.scope v) vs

abbrev pub parameter_entries : Symbols → ℕ → List Parameter → List (List ℕ × Declared)
parameter_entries symbols k [] = []
parameter_entries symbols k (p ∷ ps) = (p.name.text, record { slot = slot.Argument k; class = type_class symbols p.kind }) ∷ parameter_entries symbols (k + 1) ps

abbrev pub local_entries : Symbols → ℕ → List Locals → List (List ℕ × Declared)
local_entries symbols k [] = []
local_entries symbols k (v ∷ vs) = line_entries slot.Local (type_class symbols v.kind) k (names_of v.names) ++ local_entries symbols (k + length (names_of v.names)) vs

abbrev pub locals_of : List Locals → ℕ
locals_of [] = 0
locals_of (v ∷ vs) = length (names_of v.names) + locals_of vs

-- a method's object is its argument 0
abbrev pub objects : Form → ℕ
objects f = if is_method f then 1 else 0

abbrev pub variable_entries : Symbols → Subroutine → List (List ℕ × Declared)
variable_entries symbols s = parameter_entries symbols (objects s.form) s.parameters.items ++ local_entries symbols 0 s.locals.items

-- What names stand for in a class: the names of the program, its fields and statics, its number and its file.
pub record ClassScope : Type 0 where
  pub symbols : Symbols
  pub member : List ℕ → Option Declared
  pub own : ℕ
  pub source : Source

-- a class, whether it is one of the operating system, its number, and how many statics come before its own
abbrev pub class_scope : Symbols → Bool → ℕ → ℕ → Class → ClassScope
class_scope symbols shipped own statics c = record {
  symbols = symbols;
  member = λ x. find_value x (member_entries symbols 0 statics c.variables.items);
  own = own;
  source = source_of shipped c;
}

-- What names stand for in a subroutine of a class: its parameters and locals come before fields and statics.
abbrev pub scope_with : ClassScope → (List ℕ → Option Declared) → Form → Scope
scope_with c local form = record {
  variable = λ x. first_of (local x) (c.member x);
  class = c.symbols.class;
  subroutine = c.symbols.subroutine;
  form = form;
  own = c.own;
  source = c.source;
}

abbrev pub scope_in : ClassScope → Subroutine → Scope
scope_in c s = scope_with c (λ x. find_value x (variable_entries c.symbols s)) s.form

-- The search for the first name fault of a whole program, which NameFaults and FaultOrder define, and the program that is meant where there is no
-- fault. The classes of the folder come first, in order of file name, and those of the operating system after them (book, chapters 11 and 12).
use Rattle.std.specs.Prelude.{◌≡◌, ℕ, ◌+◌, ◌-◌, max, Bool, true, false, List, [], ◌∷◌, ◌++◌, map, Option, Some, None, length, codes, if◌then◌else◌, nat_eq, ◌&&◌, slice_get}
use Rattle.std.specs.Str.{bytes_eq}
use Rattle.scan_text.specs.Text.{nowhere}
use Rattle.jack_meaning.specs.Text as meaning
use Rattle.jack_tree.specs.declared.tree.Form.{Form}
use Rattle.jack_tree.specs.declared.tree.Form.TheVariants as form
use Rattle.jack_tree.specs.declared.tree.Statement as statements
use Rattle.jack_tree.specs.declared.tree.Subroutine.{Subroutine}
use Rattle.jack_tree.specs.declared.tree.Class.{Class}
use Rattle.name_table.specs.Names.{first_of}
use Rattle.jack_names.specs.Faults.{NameDiagnostic, Source, first_in}
use Rattle.jack_names.specs.Inner.Uses.{Makes, subroutine_uses}
use Rattle.jack_names.specs.Sizes.{sizes}
use Rattle.jack_names.specs.Inner.Scopes.{Scope, is_function, use_fault, first_fault}
use Rattle.jack_names.specs.Symbols.{Symbols, ClassScope, symbols_of, class_scope, scope_in, fields_of, statics_of, locals_of, objects}
use Rattle.jack_names.specs.Inner.Twice.{declarations_fault}
use Rattle.jack_names.specs.Made.{one}
use Rattle.jack_names.specs.Inner.Meant.{made_number, number_by, statements_meant}
use Rattle.jack_names.specs.declared.fault.NameKind.TheVariants as kinds
use Rattle.jack_names.specs.declared.scope.Signature.{Signature}

abbrev pub class_names : List Class → List (List ℕ)
class_names cs = map (λ c. c.name.text) cs

-- Declarations: the folder's classes are tried with those of the operating system already there.
abbrev pub declared_fault : List Class → List Class → Option NameDiagnostic
declared_fault own os = first_of (declarations_fault false (class_names os) own) (declarations_fault true [] os)

-- the subroutine of these names, where it is there
abbrev pub found_by : Symbols → List ℕ → Option ℕ → Option Signature
found_by symbols f None = None
found_by symbols f (Some k) = symbols.subroutine k f

abbrev pub found_subroutine : Symbols → List ℕ → List ℕ → Option Signature
found_subroutine symbols c f = found_by symbols f (symbols.class c)

-- a function without parameters
abbrev pub is_plain : Option Signature → Bool
is_plain None = false
is_plain (Some g) = is_function g.form && nat_eq g.parameters 0

-- There is a function Main.main without parameters.
abbrev pub main_fault : Symbols → Option NameDiagnostic
main_fault symbols =
    if is_plain (found_subroutine symbols (codes "Main") (codes "main"))
    then None
    else Some (record { kind = kinds.NoMain; shipped = false; file = codes "Main.jack"; name = codes "Main.main"; place = nowhere })

-- the first fault in the uses of a class
abbrev pub class_fault : ClassScope → List Subroutine → Option NameDiagnostic
class_fault scope ss = first_in (λ s. first_fault (scope_in scope s) (subroutine_uses s)) ss

-- The first fault in the uses of classes; the number of the first class and the number of statics before its own are given.
abbrev pub uses_fault : Symbols → Bool → ℕ → ℕ → List Class → Option NameDiagnostic
uses_fault symbols shipped own statics [] = None
uses_fault symbols shipped own statics (c ∷ cs) =
    first_of (class_fault (class_scope symbols shipped own statics c) c.subroutines.items) (uses_fault symbols shipped (own + 1) (statics + statics_of c.variables.items) cs)

-- the file of the class Sys of the operating system
abbrev pub system_file : Source
system_file = record { shipped = true; file = codes "Sys.jack" }

-- what names stand for before the program begins
abbrev pub start_scope : Symbols → Scope
start_scope symbols = record {
  variable = λ x. None;
  class = symbols.class;
  subroutine = symbols.subroutine;
  form = form.Function;
  own = 0;
  source = system_file;
}

-- The program begins by a call of Sys.init, whose place is before all else in that file.
abbrev pub start_fault : Symbols → Option NameDiagnostic
start_fault symbols = use_fault (start_scope symbols) (Makes (codes "Sys") (codes "init") 0 nowhere)

-- The first fault in the uses of the operating system's classes, with that call: where no file is that of Sys, the call comes last.
abbrev pub os_fault : Symbols → ℕ → ℕ → List Class → Option NameDiagnostic
os_fault symbols own statics [] = start_fault symbols
os_fault symbols own statics (c ∷ cs) =
    if bytes_eq c.file (codes "Sys.jack")
    then first_of (start_fault symbols) (uses_fault symbols true own statics (c ∷ cs))
    else first_of (class_fault (class_scope symbols true own statics c) c.subroutines.items) (os_fault symbols (own + 1) (statics + statics_of c.variables.items) cs)

abbrev pub all_statics : List Class → ℕ
all_statics [] = 0
all_statics (c ∷ cs) = statics_of c.variables.items + all_statics cs

abbrev pub all_uses_fault : Symbols → List Class → List Class → Option NameDiagnostic
all_uses_fault symbols own os = first_of (uses_fault symbols false 0 0 own) (os_fault symbols (length own) (all_statics own) os)

-- Declarations first, then Main.main, then uses; at one place the least kind.
abbrev pub first_name_fault : List Class → List Class → Option NameDiagnostic
first_name_fault own os =
    let symbols = symbols_of (own ++ os) in
    first_of (declared_fault own os) (first_of (main_fault symbols) (all_uses_fault symbols own os))

abbrev pub WellNamed : List Class → List Class → Type 0
WellNamed own os = first_name_fault own os ≡ None

-- a constructor first takes a block of as many words as its class has fields, one at least
abbrev pub first_statements : Scope → Form → ℕ → List meaning.Statement
first_statements s form.Constructor fields = meaning.LetThis 0 (meaning.Call (made_number s (codes "Memory") (codes "alloc")) (one (meaning.Literal (max 1 fields)))) ∷ []
first_statements s _ fields = []

abbrev pub is_return : statements.Statement → Bool
is_return (statements.Return at v) = true
is_return _ = false

abbrev pub last_returns : Option statements.Statement → Bool
last_returns None = false
last_returns (Some t) = is_return t

-- the last statement is a `return`
abbrev pub returns : List statements.Statement → Bool
returns ss = last_returns (slice_get ss (length ss - 1))

-- the `return` that a body lacks, with this number
abbrev pub added_return : Bool → ℕ → List meaning.Statement
added_return true n = []
added_return false n = meaning.Return n (meaning.Literal 0) ∷ []

abbrev pub body_meant : Scope → ℕ → Subroutine → List meaning.Statement
body_meant s fields t = first_statements s t.form fields ++ statements_meant s 1 t.statements.items ++ added_return (returns t.statements.items) (1 + sizes t.statements.items)

abbrev pub kind_meant : Form → meaning.Kind
kind_meant form.Constructor = meaning.Constructor
kind_meant form.Function = meaning.Function
kind_meant form.Method = meaning.Method

abbrev pub subroutine_meant : Scope → ℕ → Subroutine → meaning.Subroutine
subroutine_meant s fields t = record {
  kind = kind_meant t.form;
  class = s.own;
  arguments = objects t.form + length t.parameters.items;
  locals = locals_of t.locals.items;
  body = meaning.text_of (body_meant s fields t);
}

-- the subroutines of a class with this many fields
abbrev pub class_subroutines : ClassScope → ℕ → List Subroutine → List meaning.Subroutine
class_subroutines scope fields ss = map (λ t. subroutine_meant (scope_in scope t) fields t) ss

abbrev pub subroutines_meant : Symbols → Bool → ℕ → ℕ → List Class → List meaning.Subroutine
subroutines_meant symbols shipped own statics [] = []
subroutines_meant symbols shipped own statics (c ∷ cs) =
    class_subroutines (class_scope symbols shipped own statics c) (fields_of c.variables.items) c.subroutines.items
    ++ subroutines_meant symbols shipped (own + 1) (statics + statics_of c.variables.items) cs

abbrev pub all_subroutines_meant : Symbols → List Class → List Class → List meaning.Subroutine
all_subroutines_meant symbols own os = subroutines_meant symbols false 0 0 own ++ subroutines_meant symbols true (length own) (all_statics own) os

-- subroutine 0, which no call names
abbrev pub start_subroutine : meaning.Subroutine
start_subroutine = record { kind = meaning.Function; class = 0; arguments = 0; locals = 0; body = meaning.End }

abbrev pub class_meant : Class → meaning.Class
class_meant c = record { fields = fields_of c.variables.items; statics = statics_of c.variables.items }

abbrev pub program_meant : List Class → List Class → meaning.Program
program_meant own os =
    let symbols = symbols_of (own ++ os) in
    record {
      classes = map class_meant own ++ map class_meant os;
      subroutines = start_subroutine ∷ all_subroutines_meant symbols own os;
      init = number_by (found_subroutine symbols (codes "Sys") (codes "init"));
    }

-- the names of the subroutines, in order of their numbers
abbrev pub subroutine_name : List ℕ → Subroutine → List ℕ
subroutine_name class t = class ++ (codes "." ++ t.name.text)

abbrev pub names_meant : List Class → List (List ℕ)
names_meant [] = []
names_meant (c ∷ cs) = map (subroutine_name c.name.text) c.subroutines.items ++ names_meant cs

abbrev pub all_names_meant : List Class → List Class → List (List ℕ)
all_names_meant own os = codes "start" ∷ (names_meant own ++ names_meant os)

-- What names stand for in a subroutine, and the search for what is wrong with their uses: what it finds is said in NameFaults.
use Rattle.std.specs.Prelude.{ℕ, Bool, true, false, not, List, [], ◌∷◌, Option, Some, None, if◌then◌else◌, ◌==◌, nat_lt, codes}
use Rattle.scan_text.specs.declared.Place.{Place}
use Rattle.jack_tree.specs.declared.tree.Name.{Name}
use Rattle.jack_tree.specs.declared.tree.Form.{Form}
use Rattle.jack_tree.specs.declared.tree.Form.TheVariants as form
use Rattle.name_table.specs.Names.{first_of}
use Rattle.jack_names.specs.Faults.{NameDiagnostic, Source, kind_number, diagnostic_in, diagnostic_if, first_in}
use Rattle.jack_names.specs.Inner.Uses.{Use, Variable, This, Calls, Makes, Text}
use Rattle.jack_names.specs.declared.fault.NameKind.{NameKind}
use Rattle.jack_names.specs.declared.fault.NameKind.TheVariants as kinds
use Rattle.jack_names.specs.declared.scope.Slot.{Slot}
use Rattle.jack_names.specs.declared.scope.Slot.TheVariants as slot
use Rattle.jack_names.specs.declared.scope.Way.{Way}
use Rattle.jack_names.specs.declared.scope.Way.TheVariants as way
use Rattle.jack_names.specs.declared.scope.Declared.{Declared}
use Rattle.jack_names.specs.declared.scope.Signature.{Signature}
use Rattle.jack_names.specs.declared.scope.Callee.{Callee}

-- What each name stands for in a subroutine: a variable, the number of a class, or a subroutine of the class of a number. Of variables,
-- parameters and locals come before fields and statics. With these come the subroutine's form, the number of its class and its file.
pub record Scope : Type 0 where
  pub variable : List ℕ → Option Declared
  pub class : List ℕ → Option ℕ
  pub subroutine : ℕ → List ℕ → Option Signature
  pub form : Form
  pub own : ℕ
  pub source : Source

abbrev pub is_function : Form → Bool
is_function form.Function = true
is_function _ = false

abbrev pub is_method : Form → Bool
is_method form.Method = true
is_method _ = false

-- this kind, where the test holds
abbrev pub kind_if : Bool → NameKind → Option NameKind
kind_if true k = Some k
kind_if false k = None

abbrev pub is_field : Slot → Bool
is_field (slot.Field k) = true
is_field _ = false

-- a field in a function
abbrev pub field_kind : Form → Declared → Option NameKind
field_kind f v = if is_function f then kind_if (is_field v.slot) kinds.FieldInFunction else None

-- a variable that nothing declares, or a field in a function
abbrev pub variable_kind : Form → Option Declared → Option NameKind
variable_kind f None = Some kinds.UnknownVariable
variable_kind f (Some v) = field_kind f v

-- `this` in a function
abbrev pub this_kind : Form → Option NameKind
this_kind f = kind_if (is_function f) kinds.ThisInFunction

-- How a call is made and the number of the class that it goes to: through a variable, whose type is that class; else through a class.
abbrev pub through : Way → Option ℕ → Option Callee
through w None = None
through w (Some k) = Some (record { way = w; class = k })

abbrev pub callee_by : Option Declared → Option ℕ → Option Callee
callee_by None class = through way.ByClass class
callee_by (Some v) class = through way.ByObject v.class

abbrev pub callee : Scope → Option Name → Option Callee
callee s None = Some (record { way = way.Own; class = s.own })
callee s (Some x) = callee_by (s.variable x.text) (s.class x.text)

-- What is wrong with the front name of a call: it leads to no class, or it is a field in a function.
abbrev pub front_by : Form → Option Declared → Option Callee → Option NameKind
front_by f v None = Some kinds.UnknownClass
front_by f None (Some c) = None
front_by f (Some v) (Some c) = field_kind f v

abbrev pub front_fault : Scope → Option Name → Option NameDiagnostic
front_fault s None = None
front_fault s (Some x) = diagnostic_if s.source x.text x.place (front_by s.form (s.variable x.text) (callee s (Some x)))

-- the number of arguments differs
abbrev pub count_kind : ℕ → Signature → Option NameKind
count_kind n g = kind_if (not (g.parameters == n)) kinds.ArgumentCount

-- the form of a subroutine does not fit the way of the call
abbrev pub way_kind : Way → Form → Option NameKind
way_kind way.ByClass f = kind_if (is_method f) kinds.MethodByClass
way_kind way.ByObject f = kind_if (not (is_method f)) kinds.FunctionByObject
way_kind way.Own f = kind_if (not (is_method f)) kinds.FunctionByObject

-- a call without class or variable in a function
abbrev pub own_kind : Way → Form → Option NameKind
own_kind way.Own f = kind_if (is_function f) kinds.OwnInFunction
own_kind _ f = None

-- What is wrong with a call of a subroutine, in a subroutine of a form: the least kind.
abbrev pub signature_kind : Form → Way → ℕ → Option Signature → Option NameKind
signature_kind f w n None = Some kinds.UnknownSubroutine
signature_kind f w n (Some g) = first_of (count_kind n g) (first_of (way_kind w g.form) (own_kind w f))

abbrev pub called_kind : Scope → List ℕ → ℕ → Option Callee → Option NameKind
called_kind s f n None = None
called_kind s f n (Some c) = signature_kind s.form c.way n (s.subroutine c.class f)

-- a call that is made by itself: its class, or its subroutine
abbrev pub made_kind : Scope → Way → List ℕ → ℕ → Option ℕ → Option NameKind
made_kind s w f n None = Some kinds.UnknownClass
made_kind s w f n (Some k) = signature_kind s.form w n (s.subroutine k f)

-- an unknown class is reported by its own name, all else by the subroutine's
abbrev pub made_name : List ℕ → List ℕ → NameKind → List ℕ
made_name c f kinds.UnknownClass = c
made_name c f _ = f

abbrev pub made_diagnostic : Source → List ℕ → List ℕ → Place → Option NameKind → Option NameDiagnostic
made_diagnostic source c f at None = None
made_diagnostic source c f at (Some k) = Some (diagnostic_in source (made_name c f k) at k)

-- the second of two kinds is the lesser
abbrev pub is_lesser : Option NameKind → Option NameKind → Bool
is_lesser a None = false
is_lesser None (Some l) = true
is_lesser (Some k) (Some l) = nat_lt (kind_number l) (kind_number k)

-- A string is made by String.new, and one that is not empty is filled by its method appendChar: the lesser kind of both, at one place.
abbrev pub new_kind : Scope → Option NameKind
new_kind s = made_kind s way.ByClass (codes "new") 1 (s.class (codes "String"))

abbrev pub append_kind : Scope → List ℕ → Option NameKind
append_kind s [] = None
append_kind s (b ∷ bs) = made_kind s way.ByObject (codes "appendChar") 1 (s.class (codes "String"))

abbrev pub string_fault : Scope → List ℕ → Place → Option NameDiagnostic
string_fault s text at =
    if is_lesser (new_kind s) (append_kind s text)
    then made_diagnostic s.source (codes "String") (codes "appendChar") at (append_kind s text)
    else made_diagnostic s.source (codes "String") (codes "new") at (new_kind s)

abbrev pub call_fault : Scope → Option Name → Name → ℕ → Option NameDiagnostic
call_fault s o f n = first_of (front_fault s o) (diagnostic_if s.source f.text f.place (called_kind s f.text n (callee s o)))

-- what is wrong with a use
abbrev pub use_fault : Scope → Use → Option NameDiagnostic
use_fault s (Variable x) = diagnostic_if s.source x.text x.place (variable_kind s.form (s.variable x.text))
use_fault s (This at) = diagnostic_if s.source (codes "this") at (this_kind s.form)
use_fault s (Calls o f n) = call_fault s o f n
use_fault s (Makes c f n at) = made_diagnostic s.source c f at (made_kind s way.ByClass f n (s.class c))
use_fault s (Text t) = string_fault s t.text t.place

-- the first use with which something is wrong
abbrev pub first_fault : Scope → List Use → Option NameDiagnostic
first_fault s uses = first_in (use_fault s) uses

-- Faults of names, as they are reported.
use Rattle.std.specs.Prelude.{◌≡◌, ℕ, Bool, Result, Ok, Err, List, [], ◌∷◌, Option, Some, None}
use Rattle.scan_text.specs.declared.Place.{Place}
use Rattle.name_table.specs.Names.{first_of}
use Rattle.jack_names.specs.declared.fault.NameKind.{NameKind}
use Rattle.jack_names.specs.declared.fault.NameKind.TheVariants as kinds
use Rattle.jack_names.specs.declared.fault.NameFault.{NameFault}
use Rattle.jack_names.specs.declared.fault.NameError.{NameError}
use Rattle.jack_names.specs.declared.fault.NameError.TheVariants as errors

-- the kinds by number
abbrev pub kind_number : NameKind → ℕ
kind_number kinds.FileName = 1
kind_number kinds.ClassTwice = 2
kind_number kinds.MemberTwice = 3
kind_number kinds.VariableTwice = 4
kind_number kinds.UnknownVariable = 5
kind_number kinds.UnknownClass = 6
kind_number kinds.UnknownSubroutine = 7
kind_number kinds.ArgumentCount = 8
kind_number kinds.MethodByClass = 9
kind_number kinds.FunctionByObject = 10
kind_number kinds.ThisInFunction = 11
kind_number kinds.FieldInFunction = 12
kind_number kinds.OwnInFunction = 13
kind_number kinds.NoMain = 14

-- what is wrong, in which file, with which name, and where that stands
pub record NameDiagnostic : Type 0 where
  pub kind : NameKind
  pub shipped : Bool
  pub file : List ℕ
  pub name : List ℕ
  pub place : Place

-- a file: whether it is one of the operating system, and its name
pub record Source : Type 0 where
  pub shipped : Bool
  pub file : List ℕ

abbrev pub diagnostic_in : Source → List ℕ → Place → NameKind → NameDiagnostic
diagnostic_in source name place kind = record { kind = kind; shipped = source.shipped; file = source.file; name = name; place = place }

-- what is reported where something is wrong
abbrev pub diagnostic_if : Source → List ℕ → Place → Option NameKind → Option NameDiagnostic
diagnostic_if source name place None = None
diagnostic_if source name place (Some kind) = Some (diagnostic_in source name place kind)

-- the first fault of a list of things
abbrev pub first_in : {A : Type 0} → (A → Option NameDiagnostic) → List A → Option NameDiagnostic
first_in fault [] = None
first_in fault (x ∷ xs) = first_of (fault x) (first_in fault xs)

-- the fault of the code
abbrev pub diagnostic_of : NameFault → NameDiagnostic
diagnostic_of f = record { kind = f.kind; shipped = f.shipped; file = f.file; name = f.name.items; place = f.place }

-- A check found this fault, or none, unless memory ran out.
abbrev pub Checks : Option NameDiagnostic → Result (Unit {0}) NameError → Type 0
Checks wanted (Ok u) = wanted ≡ None
Checks wanted (Err errors.Memory) = Unit {0}
Checks wanted (Err (errors.Fault f)) = wanted ≡ Some (diagnostic_of f)

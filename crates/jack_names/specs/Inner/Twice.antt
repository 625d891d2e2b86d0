-- The search for faults of declared names: what it finds is said in NameFaults, kinds 1 to 4.
use Rattle.std.specs.Prelude.{ℕ, Bool, List, [], ◌∷◌, ◌++◌, map, Option, Some, None, if◌then◌else◌, codes}
use Rattle.std.specs.Str.{bytes_eq}
use Rattle.jack_tree.specs.declared.tree.Name.{Name}
use Rattle.jack_tree.specs.declared.tree.Names.{Names}
use Rattle.jack_tree.specs.declared.tree.ClassVariables.{ClassVariables}
use Rattle.jack_tree.specs.declared.tree.Locals.{Locals}
use Rattle.jack_tree.specs.declared.tree.Parameter.{Parameter}
use Rattle.jack_tree.specs.declared.tree.Subroutine.{Subroutine}
use Rattle.jack_tree.specs.declared.tree.Class.{Class}
use Rattle.name_table.specs.Names.{first_of}
use Rattle.jack_names.specs.Tables.{is_among}
use Rattle.jack_names.specs.Faults.{NameDiagnostic, Source, diagnostic_in}
use Rattle.jack_names.specs.declared.fault.NameKind.{NameKind}
use Rattle.jack_names.specs.declared.fault.NameKind.TheVariants as kinds

abbrev pub told_name : Source → NameKind → Name → NameDiagnostic
told_name source kind x = diagnostic_in source x.text x.place kind

-- a name that is there before
abbrev pub twice_fault : Source → NameKind → List (List ℕ) → Name → Option NameDiagnostic
twice_fault source kind before x = if is_among x.text before then Some (told_name source kind x) else None

abbrev pub texts_of : List Name → List (List ℕ)
texts_of xs = map (λ x. x.text) xs

-- the first of these names that is there before, or stands among them before
abbrev pub first_twice : Source → NameKind → List (List ℕ) → List Name → Option NameDiagnostic
first_twice source kind before [] = None
first_twice source kind before (x ∷ xs) = first_of (twice_fault source kind before x) (first_twice source kind (before ++ x.text ∷ []) xs)

abbrev pub names_of : Names → List Name
names_of ns = ns.first ∷ ns.more.items

-- Fields and statics, declaration by declaration.
abbrev pub members_twice : Source → List (List ℕ) → List ClassVariables → Option NameDiagnostic
members_twice source before [] = None
members_twice source before (v ∷ vs) =
    first_of (first_twice source kinds.MemberTwice before (names_of v.names)) (members_twice source (before ++ texts_of (names_of v.names)) vs)

abbrev pub parameter_names : List Parameter → List Name
parameter_names [] = []
parameter_names (p ∷ ps) = p.name ∷ parameter_names ps

-- Locals, declaration by declaration.
abbrev pub locals_twice : Source → List (List ℕ) → List Locals → Option NameDiagnostic
locals_twice source before [] = None
locals_twice source before (v ∷ vs) =
    first_of (first_twice source kinds.VariableTwice before (names_of v.names)) (locals_twice source (before ++ texts_of (names_of v.names)) vs)

-- the parameters and locals of a subroutine
abbrev pub variables_fault : Source → Subroutine → Option NameDiagnostic
variables_fault source s =
    first_of (first_twice source kinds.VariableTwice [] (parameter_names s.parameters.items))
    (locals_twice source (texts_of (parameter_names s.parameters.items)) s.locals.items)

-- In the order of the text: each subroutine's name, and its parameters and locals.
abbrev pub subroutines_fault : Source → List (List ℕ) → List Subroutine → Option NameDiagnostic
subroutines_fault source before [] = None
subroutines_fault source before (s ∷ ss) =
    first_of (twice_fault source kinds.MemberTwice before s.name)
    (first_of (variables_fault source s) (subroutines_fault source (before ++ s.name.text ∷ []) ss))

abbrev pub members_fault : Source → Class → Option NameDiagnostic
members_fault source c = first_of (members_twice source [] c.variables.items) (subroutines_fault source [] c.subroutines.items)

abbrev pub source_of : Bool → Class → Source
source_of shipped c = record { shipped = shipped; file = c.file }

-- A class is named as its file, without the ending.
abbrev pub file_fault : Source → Class → Option NameDiagnostic
file_fault source c = if bytes_eq (c.name.text ++ codes ".jack") c.file then None else Some (told_name source kinds.FileName c.name)

-- The first fault of kinds 1 to 4 in a class, where classes of these names are already there.
abbrev pub declaration_fault : Bool → List (List ℕ) → Class → Option NameDiagnostic
declaration_fault shipped before c =
    let source = source_of shipped c in
    first_of (file_fault source c) (first_of (twice_fault source kinds.ClassTwice before c.name) (members_fault source c))

-- in classes, one after the other
abbrev pub declarations_fault : Bool → List (List ℕ) → List Class → Option NameDiagnostic
declarations_fault shipped before [] = None
declarations_fault shipped before (c ∷ cs) =
    first_of (declaration_fault shipped before c) (declarations_fault shipped (before ++ c.name.text ∷ []) cs)
